use Rattle.std.proofs.Common.{◌≡◌, ◌∙◌, ℕ, List, ap, length, refl}
use Rattle.std.proofs.lemmas.Result.{on_ok_weaker}
use Rattle.serde_json.specs.Data.{Data}
use Rattle.work_registry.specs.EntryValue.{EntryValue}
use Rattle.work_registry.specs.Rows.{Row, rows_of}
use Rattle.register_tables.specs.declared.conflicts.Conflicted.{Conflicted}
use Rattle.register_tables.specs.declared.submitters.SubmitterEntries.{SubmitterEntries}
use Rattle.register_tables.specs.declared.tally.Tally.{Tally}
use Rattle.register_tables.specs.JsonValues.{value_tokens}
use Rattle.register_tables.specs.Summary.{different, largest, most_entries, submitters, tally_of}
use Rattle.register_tables.specs.SummaryJson.{conflicts_data, shares_data, submitters_data, summary_data, object_of_numbers}
use Rattle.register_tables.specs.WorksTable.{last_work}
use Rattle.register_tables.proofs.JsonObjects.{adds_same}
use Rattle.register_tables.proofs.summary_object.put_summary.Goals as goal

-- what is told of equal numbers is equal
same_told : (e f w v s r : ℕ) (t u : Tally) (left : Data) (cs ds : List Conflicted) (ms ns : List SubmitterEntries) → e ≡ f → w ≡ v → s ≡ r → t ≡ u → cs ≡ ds → ms ≡ ns
    → value_tokens (object_of_numbers e w s t left (conflicts_data cs) (submitters_data ms))
    ≡ value_tokens (object_of_numbers f v r u left (conflicts_data ds) (submitters_data ns))
same_told e f w v s r t u left cs ds ms ns entries works submitters tally top most = rw (entries, works, submitters, tally, top, most) refl

pub returns : goal.returns
returns g c =
    let history : List EntryValue = c.args.book.now.history in
    let rows : List Row = rows_of history in
    let works : c.last_work-last.result ≡ last_work rows = c.last_work-last.ensures ∙ ap (λ (entries : List EntryValue). last_work (rows_of entries)) c.history.ensures.entries in
    let many : c.in_ok-submitter_count.field-0 ≡ length (different (submitters history)) =
    c.in_ok-submitter_count.ensures ∙ ap (λ (entries : List EntryValue). length (different (submitters entries))) c.history-2.ensures.entries in
    on_ok_weaker c.put_summary_members.result
    (adds_same c.args.out.now c.put_summary_members.new.out _ (value_tokens (summary_data history))
    (same_told c.len.result (length history) c.last_work-last.result (last_work rows) c.in_ok-submitter_count.field-0 (length (different (submitters history))) c.tally_of.result (tally_of rows history) (shares_data rows)
    c.deref.result.now (largest history) c.deref-2.result.now (most_entries history) c.len.ensures.value works many c.tally_of.ensures (c.deref.ensures.value ∙ c.in_ok-top.ensures) (c.deref-2.ensures.value ∙ c.in_ok-most.ensures)))
    c.put_summary_members.ensures
