use Rattle.std.proofs.Common.{◌∙◌, ℕ, length, ap, List, refl, arith}
use Rattle.std.proofs.lemmas.List.{length-set}
use Rattle.check_pages.proofs.Counts.{counted_on, few, none_left}
use Rattle.check_pages.proofs.rule_counts.RuleCounts.of.Goals as goal

pub loop-finding-init : goal.loop-finding-init
loop-finding-init c = record {
  size = c.new-tally.ensures.size;
  each = λ n lt. let none = c.new-tally.ensures.each n lt in omega (arith, none);
}

pub loop-finding-preserved : goal.loop-finding-preserved
loop-finding-preserved c = record {
  size = ap (λ (l : List ℕ). length l) c.add.ensures ∙ length-set _ _ _ ∙ c.loop-finding.invariant.size;
  each = λ n lt.
      counted_on c.loop-finding.tally.counts c.add.new.self.counts c.args.findings.now c.loop-finding.finding-index _ n _ _ c.loop-finding-test.true refl
      (omega (arith, c.loop-finding.invariant.size)) c.add.ensures (c.loop-finding.invariant.each n lt);
}

pub add-requires : goal.add-requires
add-requires c = few c.loop-finding.tally.counts c.args.findings.now c.loop-finding.finding-index _ (omega arith) (omega arith) c.loop-finding.invariant.each

pub returns : goal.returns
returns c = record {
  size = c.loop-finding.invariant.size;
  each = λ n lt. none_left _ n c.args.findings.now c.loop-finding.finding-index _ (omega arith) (c.loop-finding.invariant.each n lt);
}
