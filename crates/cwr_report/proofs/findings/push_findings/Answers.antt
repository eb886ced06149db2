use Rattle.std.proofs.Common.{◌≡◌, ◌∙◌, ℕ, ◌+◌, Bool, cond, List, length, sym, ap, subst, arith}
use Rattle.std.specs.List.{AllByRecursion}
use Rattle.std.proofs.lemmas.List.Sums.{sum_by-cons}
use Rattle.cwr_check.specs.CheckText.{faulty_count, has_faults}
use Rattle.cwr_grammar.specs.RawParts.{RawParts, IsPlaced, lines_in}
use Rattle.cwr_report.proofs.FindingSteps.{found_more}
use Rattle.cwr_report.proofs.findings.push_findings.Goals.{then-branch, else-branch}
use Rattle.cwr_report.proofs.findings.push_findings.Goals as goal

pub loop-transaction-preserved : goal.loop-transaction-preserved
loop-transaction-preserved g c =
    let t = c.in-Some.transaction in
    let before = c.loop-transaction.invariant in
    let told = c.in_ok-push_findings_in.ensures.faulty c.args.submitter in
    let counted = c.lines-lines.ensures t.kind t.lines c.in_ok-read.ensures.read in
    let step : lines_in c.loop-transaction.transaction-iterator ≡ length t.lines + lines_in c.next.new.self = ap lines_in c.in-Some.ensures.steps in
    let faulty : faulty_count c.args.submitter c.loop-transaction.transaction-iterator ≡ cond (has_faults c.args.submitter t) 1 0 + faulty_count c.args.submitter c.next.new.self =
    ap (λ (ts : List RawParts). faulty_count c.args.submitter ts) c.in-Some.ensures.steps ∙ sum_by-cons (λ (one : RawParts). cond (has_faults c.args.submitter one) 1 0) t c.next.new.self in
    let count : Bool → ℕ = λ b. cond b 1 0 in
    record {
      found =
          found_more c.args.submitter _ _ _ c.loop-transaction.lines c.lines-lines.result t _ c.next.new.self
          (c.in_ok-push_findings_in.ensures.findings c.args.submitter) counted c.in-Some.ensures.steps before.found;
      counted = elim c.if-branch.branch [
        | then-branch w ↦ omega (arith, w.faulty-is, faulty, ap count (sym told ∙ w.if-branch.true), before.counted)
        | else-branch w ↦ omega (arith, w.faulty-is, faulty, ap count (sym told ∙ w.if-branch.false), before.counted)
      ];
      passed = omega (arith, counted, step, before.passed);
      placed = (subst (λ (ts : List RawParts). AllByRecursion IsPlaced ts) c.in-Some.ensures.steps before.placed).1;
    }
