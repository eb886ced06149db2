use Rattle.std.proofs.Common.{◌≡◌, ◌∙◌, ℕ, List, ◌++◌, ap, length, refl}
use Rattle.work_registry.specs.EntryValue.{EntryValue}
use Rattle.work_registry.specs.Rows.{Row, rows_of}
use Rattle.register_tables.specs.declared.conflicts.Conflicted.{Conflicted}
use Rattle.register_tables.specs.declared.submitters.SubmitterEntries.{SubmitterEntries}
use Rattle.register_tables.specs.declared.tally.Tally.{Tally}
use Rattle.register_tables.specs.Summary.{different, largest, most_entries, submitters, tally_of}
use Rattle.register_tables.specs.WorksTable.{last_work}
use Rattle.html_text.specs.Pieces.{Piece, page_text}
use Rattle.html_text.specs.declared.fragment.Fragment.TheVariants.{End}
use Rattle.summary_pages.specs.SummaryPage.{counts_pieces, rights_pieces, summary_title_pieces, tops_pieces}
use Rattle.summary_pages.proofs.Tables.{whole}
use Rattle.summary_pages.proofs.summary.page_of.Goals as goal

-- what is told of equal numbers is equal
same_counts : (e f w v s r : ℕ) (t u : Tally) → e ≡ f → w ≡ v → s ≡ r → t ≡ u → counts_pieces e w s t ≡ counts_pieces f v r u
same_counts e f w v s r t u entries works submitters tally = rw (entries, works, submitters, tally) refl

same_tops : (ms ns : List SubmitterEntries) (cs ds : List Conflicted) → ms ≡ ns → cs ≡ ds → tops_pieces ms cs ≡ tops_pieces ns ds
same_tops ms ns cs ds most top = rw (most, top) refl

pub returns : goal.returns
returns g c =
    let history : List EntryValue = c.args.book.now.history in
    let rows : List Row = rows_of history in
    let works : c.last_work-last.result ≡ last_work rows = c.last_work-last.ensures ∙ ap (λ (entries : List EntryValue). last_work (rows_of entries)) c.history.ensures.entries in
    let many : c.in_ok-submitters.submitters ≡ length (different (submitters history)) =
    c.in_ok-submitters.ensures ∙ ap (λ (entries : List EntryValue). length (different (submitters entries))) c.history-2.ensures.entries in
    let counts : List Piece = counts_pieces (length history) (last_work rows) (length (different (submitters history))) (tally_of rows history) in
    let tops : List Piece = tops_pieces (most_entries history) (largest history) in
    let numbers : counts_pieces c.len.result c.last_work-last.result c.in_ok-submitters.submitters c.tally_of.result ≡ counts =
    same_counts c.len.result (length history) c.last_work-last.result (last_work rows) c.in_ok-submitters.submitters (length (different (submitters history))) c.tally_of.result (tally_of rows history)
    c.len.ensures.value works many c.tally_of.ensures in
    let firsts : tops_pieces c.deref.result.now c.deref-2.result.now ≡ tops =
    same_tops c.deref.result.now (most_entries history) c.deref-2.result.now (largest history) (c.deref.ensures.value ∙ c.in_ok-most.ensures) (c.deref-2.ensures.value ∙ c.in_ok-top.ensures) in
    whole c.new-page.result.items c.put_title.new.out.items c.put_counts.new.out.items c.put_rights.new.out.items c.put_tops.new.out.items c.put.new.out.items
    (summary_title_pieces c.args.name.now) counts (rights_pieces rows) tops End c.new-page.ensures.items c.in_ok-put_title.ensures
    (c.in_ok-put_counts.ensures ∙ ap (λ (pieces : List Piece). c.put_title.new.out.items ++ page_text pieces) numbers)
    c.in_ok-put_rights.ensures
    (c.in_ok-put_tops.ensures ∙ ap (λ (pieces : List Piece). c.put_rights.new.out.items ++ page_text pieces) firsts)
    c.in_ok-put.ensures
