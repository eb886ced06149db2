-- Where the pieces of the page of a summary stand.
use Rattle.std.proofs.Common.{◌≡◌, ℕ, List, [], ◌∷◌, refl}
use Rattle.register_tables.specs.declared.conflicts.Conflicted.{Conflicted}
use Rattle.register_tables.specs.declared.shares.Bands.{Bands}
use Rattle.register_tables.specs.declared.submitters.SubmitterEntries.{SubmitterEntries}
use Rattle.register_tables.specs.declared.tally.Tally.{Tally}
use Rattle.work_registry.specs.EntryValue.{EntryValue}
use Rattle.work_registry.specs.Rows.{Row}
use Rattle.html_text.specs.Contexts.{Text, behind}
use Rattle.html_text.specs.Fragments.{fragment_text}
use Rattle.html_text.proofs.lemmas.Contexts.{Keeps, behind_append, bytes, each, text, name_of_file}
use Rattle.summary_pages.specs.SummaryPage.{bands_pieces, bar_pieces, conflict_pieces, conflicts_pieces, counted_pieces, counts_pieces, fact_pieces, facts_pieces, heading_pieces, numbers_pieces, rights_pieces, row_pieces, rows_pieces, some_conflicts_pieces, some_submitters_pieces, statuses_pieces, submitter_pieces, submitters_pieces, summary_page, summary_style_pieces, summary_title_pieces, table_pieces, tops_pieces, whole_pieces}

bar : (n whole : ℕ) → Keeps (bar_pieces n whole)
unfolding bar_pieces fragment_text
bar n whole = refl

counted : (n whole : ℕ) → Keeps (counted_pieces n whole)
unfolding counted_pieces fragment_text
counted n whole = bar n whole

row : (whole : ℕ) (r : List ℕ × ℕ) → Keeps (row_pieces whole r)
unfolding row_pieces fragment_text
row whole r = simp (behind_append, text, counted) refl

submitter : (whole : ℕ) (c : SubmitterEntries) → Keeps (submitter_pieces whole c)
unfolding submitter_pieces fragment_text
submitter whole c = simp (behind_append, bytes, counted) refl

conflict : (whole : ℕ) (c : Conflicted) → Keeps (conflict_pieces whole c)
unfolding conflict_pieces fragment_text
conflict whole c = counted c.conflicts whole

heading : (t first : List ℕ) → Keeps (heading_pieces t first)
unfolding heading_pieces fragment_text
heading t first = simp (behind_append, text) refl

whole_bar : (t : List ℕ) (whole : ℕ) → Keeps (whole_pieces t whole)
unfolding whole_pieces fragment_text
whole_bar t whole = simp (behind_append, text) refl

table : (t first what : List ℕ) (whole : ℕ) → Keeps (table_pieces t first what whole)
unfolding table_pieces
table t first what whole = simp (behind_append, heading, whole_bar) refl

rows : (whole : ℕ) (rs : List (List ℕ × ℕ)) → Keeps (rows_pieces whole rs)
unfolding rows_pieces
rows whole rs = each (row_pieces whole) rs (row whole)

statuses : (entries : ℕ) (tally : Tally) → Keeps (statuses_pieces entries tally)
unfolding statuses_pieces fragment_text
statuses entries tally = simp (behind_append, table, rows) refl

bands : (t : List ℕ) (all : ℕ) (b : Bands) → Keeps (bands_pieces t all b)
unfolding bands_pieces fragment_text
bands t all b = simp (behind_append, table, rows) refl

submitters : (whole : ℕ) (cs : List SubmitterEntries) → Keeps (submitters_pieces whole cs)
unfolding submitters_pieces fragment_text
submitters whole cs = simp (behind_append, table, each (submitter_pieces whole) cs (submitter whole)) refl

conflicts : (whole : ℕ) (cs : List Conflicted) → Keeps (conflicts_pieces whole cs)
unfolding conflicts_pieces fragment_text
conflicts whole cs = simp (behind_append, table, each (conflict_pieces whole) cs (conflict whole)) refl

some_submitters : (cs : List SubmitterEntries) → Keeps (some_submitters_pieces cs)
unfolding some_submitters_pieces
some_submitters [] = refl
some_submitters (c ∷ cs) = submitters c.entries (c ∷ cs)

some_conflicts : (cs : List Conflicted) → Keeps (some_conflicts_pieces cs)
unfolding some_conflicts_pieces
some_conflicts [] = refl
some_conflicts (c ∷ cs) = conflicts c.conflicts (c ∷ cs)

style : behind Text summary_style_pieces ≡ Text
unfolding summary_style_pieces fragment_text
style = refl

title : (name : List ℕ) → Keeps (summary_title_pieces name)
unfolding summary_title_pieces fragment_text
title name = simp (behind_append, name_of_file name, style) refl

fact : (f : List ℕ × ℕ) → Keeps (fact_pieces f)
unfolding fact_pieces fragment_text
fact f = simp (behind_append, text) refl

facts : (fs : List (List ℕ × ℕ)) → Keeps (facts_pieces fs)
unfolding facts_pieces
facts fs = each fact_pieces fs fact

numbers : (entries works claims submitters : ℕ) → Keeps (numbers_pieces entries works claims submitters)
unfolding numbers_pieces fragment_text
numbers entries works claims submitters = simp (behind_append, facts) refl

rights : (rs : List Row) → Keeps (rights_pieces rs)
unfolding rights_pieces
rights rs = simp (behind_append, bands) refl

counts : (entries works submitters : ℕ) (tally : Tally) → Keeps (counts_pieces entries works submitters tally)
unfolding counts_pieces
counts entries works submitters tally = simp (behind_append, numbers, statuses) refl

tops : (most : List SubmitterEntries) (largest : List Conflicted) → Keeps (tops_pieces most largest)
unfolding tops_pieces
tops most largest = simp (behind_append, some_submitters, some_conflicts) refl

pub summary : (name : List ℕ) (history : List EntryValue) → Keeps (summary_page name history)
unfolding fragment_text
summary name history = simp (behind_append, title, counts, rights, tops) refl
