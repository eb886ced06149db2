use Rattle.std.proofs.Common.{◌∙◌, ◌+◌, ℕ, List, ap, drop, sym, take}
use Rattle.std.specs.List.{fold}
use Rattle.std.proofs.lemmas.List.{at_drop_more}
use Rattle.register_tables.specs.declared.submitters.SubmitterEntries.{SubmitterEntries}
use Rattle.register_tables.specs.Summary.{entries_ahead, placed}
use Rattle.register_tables.proofs.Noted.{all_placed}
use Rattle.register_tables.proofs.submitters.most_entries.Goals as goal

pub loop-one-preserved : goal.loop-one-preserved
loop-one-preserved g c =
    let next : List SubmitterEntries → SubmitterEntries → List SubmitterEntries = λ top one. take 10 (placed entries_ahead one top) in
    let counts : List SubmitterEntries = c.deref-one-items.result.now in
    let i : ℕ = c.loop-one.one-index in
    ap (λ (top : List SubmitterEntries). fold next top (drop (i + 1) counts)) c.in_ok-place.ensures
    ∙ sym (at_drop_more (fold next c.loop-one.top.items) counts i _ c.loop-one-test.true)
    ∙ c.loop-one.invariant

pub returns : goal.returns
returns g c =
    all_placed c.args.book.now.history c.history.result.now c.deref-one-items.result.now c.loop-one.top.items c.loop-one.one-index
    c.history.ensures.entries (c.deref-one-items.ensures.value ∙ c.in_ok-counts.ensures) c.loop-one-test.false c.loop-one.invariant
