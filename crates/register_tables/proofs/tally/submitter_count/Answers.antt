use Rattle.std.proofs.Common.{◌≡◌, ◌∙◌, ℕ, List, ap, arith, length, drop}
use Rattle.work_registry.specs.EntryValue.{EntryValue}
use Rattle.register_tables.specs.Summary.{different, submitters}
use Rattle.register_tables.proofs.Counts.{known_more, one_before}
use Rattle.register_tables.proofs.tally.submitter_count.Goals as goal

pub loop-index-preserved : goal.loop-index-preserved
loop-index-preserved g c =
    let entries : List EntryValue = c.args.entries.now in
    let i : ℕ = c.loop-index.index in
    let e : EntryValue = c.index-entries-index.result in
    let before = one_before entries i e c.loop-index-test.true c.loop-index.auto.index c.index-entries-index.is in
    let more = known_more c.loop-index.known.keys (submitters (drop i entries)) e.call.submitter c.loop-index.invariant in
    rw (before, c.in-Ok.ensures.keys, c.submitter.ensures.value, c.call.ensures) more

pub returns : goal.returns
returns g c =
    let end : c.loop-index.index ≡ 0 = omega (arith, c.loop-index-test.false) in
    c.len.ensures.len ∙ c.loop-index.invariant.size ∙ ap (λ (i : ℕ). length (different (submitters (drop i c.args.entries.now)))) end
