use Rattle.std.proofs.Common.{◌≡◌, ◌∙◌, ◌<◌, ◌^◌, ℕ, List, ap, arith, drop, length}
use Rattle.std.proofs.lemmas.Grind.{common_steps}
use Rattle.work_registry.specs.EntryValue.{EntryValue}
use Rattle.register_tables.specs.Counting.{submitters_noted}
use Rattle.register_tables.proofs.Noted.{all_noted}
use Rattle.register_tables.proofs.submitters.entries_by_submitter.Goals as goal

pub loop-index-preserved : goal.loop-index-preserved
loop-index-preserved g c = record {
  counts = grind (arith, common_steps);
  known = c.in_ok-note.ensures.known;
}

pub returns : goal.returns
returns g c =
    let entries : List EntryValue = c.args.entries.now in
    let few = c.requires in
    let fewer : length entries < 2 ^ 64 = omega (arith, few) in
    let end : c.loop-index.index ≡ 0 = omega (arith, c.loop-index-test.false) in
    c.loop-index.invariant.counts ∙ ap (λ (i : ℕ). submitters_noted (drop i entries)) end ∙ all_noted entries fewer
