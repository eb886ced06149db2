use Rattle.std.proofs.Common.{◌≡◌, ◌<◌, ◌-◌, ◌^◌, ◌∙◌, ◌≤◌, ℕ, List, [], ap, length, take, sym, subst, arith}
use Rattle.std.proofs.lemmas.List.{length-take, take_all, take_more}
use Rattle.work_registry.specs.EntryValue.{EntryValue}
use Rattle.work_registry.specs.Rows.{Row, rows_of}
use Rattle.register_tables.specs.WorksTable.{last_work}
use Rattle.register_tables.specs.WorkTotals.{AreTotals}
use Rattle.register_tables.proofs.WorkRows.{gathered_more, kept_all}
use Rattle.register_tables.proofs.works.totals_of_works.Goals as goal

pub loop-entry-init : goal.loop-entry-init
loop-entry-init g c =
    let rows : List Row = rows_of c.args.book.now.history in
    let count : c.last_work.result ≡ last_work rows = c.last_work.ensures ∙ ap (λ (entries : List EntryValue). last_work (rows_of entries)) c.history-entries.ensures.entries in
    subst (λ (n : ℕ). AreTotals n [] c.in_ok-works.works.items) count c.in_ok-works.ensures

pub loop-entry-preserved : goal.loop-entry-preserved
loop-entry-preserved g c =
    let rows : List Row = rows_of c.args.book.now.history in
    let entries : List EntryValue = c.history-entries.result.now in
    let i : ℕ = c.loop-entry.entry-index in
    let size : length entries ≡ length c.args.book.now.history = ap (λ (xs : List EntryValue). length xs) c.history-entries.ensures.entries in
    let taken = length-take i entries in
    let fits = c.history-entries.ensures.fits in
    let most = c.history-entries.ensures.most in
    let few : length (take i entries) < 2 ^ 64 - 1 = omega (arith, size, taken, fits, most) in
    let more = gathered_more (last_work rows) (take i entries) c.loop-entry.works.items c.entry-item.result few c.note.ensures.code c.loop-entry.invariant in
    rw (c.note.ensures.noted, take_more entries i c.entry-item.result c.loop-entry-test.true, sym c.entry-item.is) more

pub returns-clause-kept : goal.returns-clause-kept
returns-clause-kept g c =
    let history : List EntryValue = c.args.book.now.history in
    let entries : List EntryValue = c.history-entries.result.now in
    let n : ℕ = last_work (rows_of history) in
    let end : length entries ≤ c.loop-entry.entry-index = c.loop-entry-test.false in
    let whole : take c.loop-entry.entry-index entries ≡ history = take_all c.loop-entry.entry-index entries end ∙ c.history-entries.ensures.entries in
    kept_all n history c.loop-entry.works.items c.history-entries.ensures.lawful
    (subst (λ (noted : List EntryValue). AreTotals n noted c.loop-entry.works.items) whole c.loop-entry.invariant)
