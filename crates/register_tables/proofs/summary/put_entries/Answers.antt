use Rattle.std.proofs.Common.{◌≡◌, ◌∙◌, ◌++◌, ℕ, List, ap, length, subst}
use Rattle.std.specs.Prelude.{codes}
use Rattle.std.proofs.lemmas.Result.{on_ok_weaker}
use Rattle.work_registry.specs.EntryValue.{EntryValue}
use Rattle.work_registry.specs.Rows.{Row, rows_of}
use Rattle.register_tables.specs.declared.tally.Tally.{Tally}
use Rattle.register_tables.specs.Summary.{different, entry_lines, lines_text, number_line, submitters, tally_of}
use Rattle.register_tables.specs.WorksTable.{last_work}
use Rattle.register_tables.proofs.Counts.{joined}
use Rattle.register_tables.proofs.summary.put_entries.Goals as goal

pub returns : goal.returns
returns g c =
    let history : List EntryValue = c.args.book.now.history in
    let rows : List Row = rows_of history in
    let old : List ℕ = c.args.page.now.items in
    let mid : List ℕ = c.put_lines.new.page.items in
    let new : List ℕ = c.put_number.new.page.items in
    let first : mid ≡ old ++ lines_text (entry_lines (length history) (last_work rows) (tally_of rows history)) =
    subst (λ (n : ℕ). mid ≡ old ++ lines_text (entry_lines n (last_work rows) (tally_of rows history))) c.len.ensures.value
    (subst (λ (n : ℕ). mid ≡ old ++ lines_text (entry_lines c.len.result n (tally_of rows history))) c.requires
    (subst (λ (t : Tally). mid ≡ old ++ lines_text (entry_lines c.len.result c.args.last t)) c.tally_of-tally.ensures c.in_ok-put_lines.ensures)) in
    let many : c.in_ok-submitters.submitters ≡ length (different (submitters history)) =
    c.in_ok-submitters.ensures ∙ ap (λ (entries : List EntryValue). length (different (submitters entries))) c.history.ensures.entries in
    on_ok_weaker c.put_number.result
    (λ last. joined old mid new (lines_text (entry_lines (length history) (last_work rows) (tally_of rows history))) (number_line (codes "submitters: ", length (different (submitters history)))) first
    (subst (λ (n : ℕ). new ≡ mid ++ number_line (codes "submitters: ", n)) many last))
    c.put_number.ensures
