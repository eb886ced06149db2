-- The page of the summary of a register: numbers, and tables whose rows have bars.
use Rattle.std.specs.Prelude.{ℕ, ◌+◌, ◌-◌, ◌*◌, ◌/◌, ◌==◌, List, [], ◌∷◌, ◌++◌, codes, if◌then◌else◌, length, map, min}
use Rattle.std.specs.List.{flat_map}
use Rattle.work_registry.specs.EntryValue.{EntryValue}
use Rattle.work_registry.specs.Rows.{Row, rows_of}
use Rattle.register_tables.specs.declared.conflicts.Conflicted.{Conflicted}
use Rattle.register_tables.specs.declared.shares.Bands.{Bands}
use Rattle.register_tables.specs.declared.submitters.SubmitterEntries.{SubmitterEntries}
use Rattle.register_tables.specs.declared.tally.Tally.{Tally}
use Rattle.register_tables.specs.Summary.{bands_of, different, largest, left_of, most_entries, submitters, tally_of, works}
use Rattle.register_tables.specs.WorksTable.{last_work}
use Rattle.html_text.specs.FileNames.{file_name}
use Rattle.html_text.specs.Pieces.{Piece, Fixed, Number, shown, text_pieces}
use Rattle.html_text.specs.declared.fragment.Fragment.TheVariants as fragment

-- Rows.

-- The width of the bar of n, where that of the whole is 320: the part of it, rounded up, and no more than the whole.
unfoldable pub bar_width : ℕ → ℕ → ℕ
bar_width n whole = if whole == 0 then 0 else min 320 ((320 * n + whole - 1) / whole)

-- the bar of a number of a whole, which is told in words, too
unfoldable pub bar_pieces : ℕ → ℕ → List Piece
bar_pieces n whole =
    Fixed fragment.RowBar ∷ Number n ∷ Fixed fragment.RowBarOf ∷ Number whole ∷ Fixed fragment.RowRect ∷ Number (bar_width n whole) ∷ Fixed fragment.RowEnd ∷ []

-- the number of a row, and its bar
unfoldable pub counted_pieces : ℕ → ℕ → List Piece
counted_pieces n whole = Fixed fragment.RowNumber ∷ Number n ∷ bar_pieces n whole

-- a row: what is counted, and its number
unfoldable pub row_pieces : ℕ → List ℕ × ℕ → List Piece
row_pieces whole row = Fixed fragment.Row ∷ (text_pieces row.0 ++ counted_pieces row.1 whole)

-- the row of a submitter, with the number of its entries
unfoldable pub submitter_pieces : ℕ → SubmitterEntries → List Piece
submitter_pieces whole c = Fixed fragment.Row ∷ Fixed fragment.Code ∷ (shown c.submitter ++ Fixed fragment.CodeEnd ∷ counted_pieces c.entries whole)

-- the row of a work, with the number of its conflicts
unfoldable pub conflict_pieces : ℕ → Conflicted → List Piece
conflict_pieces whole c = Fixed fragment.Row ∷ Number c.work ∷ counted_pieces c.conflicts whole

-- Tables.

-- the heading of a table, and what its rows are
unfoldable pub heading_pieces : List ℕ → List ℕ → List Piece
heading_pieces heading first = Fixed fragment.Table ∷ (text_pieces heading ++ Fixed fragment.TableHead ∷ text_pieces first)

-- what is counted, and how much the whole is
unfoldable pub whole_pieces : List ℕ → ℕ → List Piece
whole_pieces counted whole = Fixed fragment.TableNumber ∷ (text_pieces counted ++ Fixed fragment.TableBar ∷ Number whole ∷ Fixed fragment.TableBody ∷ [])

-- the beginning of a table
unfoldable pub table_pieces : List ℕ → List ℕ → List ℕ → ℕ → List Piece
table_pieces heading first counted whole = heading_pieces heading first ++ whole_pieces counted whole

-- rows with these names and numbers
unfoldable pub rows_pieces : ℕ → List (List ℕ × ℕ) → List Piece
rows_pieces whole rows = flat_map (row_pieces whole) rows

-- the names and numbers of the entries by status
abbrev pub status_rows : Tally → List (List ℕ × ℕ)
status_rows tally =
    (codes "accepted (AS)", tally.accepted)
    ∷ (codes "duplicates (DU)", tally.duplicates)
    ∷ (codes "conflicts (CO)", tally.conflicts)
    ∷ (codes "rejected (RJ)", tally.rejected)
    ∷ []

-- the entries by status
unfoldable pub statuses_pieces : ℕ → Tally → List Piece
statuses_pieces entries tally =
    table_pieces (codes "Entries by status") (codes "status") (codes "entries") entries ++ (rows_pieces entries (status_rows tally) ++ Fixed fragment.TableEnd ∷ [])

-- the names and numbers of the works by what is left of a right
abbrev pub band_rows : Bands → List (List ℕ × ℕ)
band_rows bands =
    (codes "none", bands.none)
    ∷ (codes "up to a quarter", bands.quarter)
    ∷ (codes "up to a half", bands.half)
    ∷ (codes "more than a half", bands.more)
    ∷ (codes "all", bands.all)
    ∷ []

-- the works by what is left of a right
unfoldable pub bands_pieces : List ℕ → ℕ → Bands → List Piece
bands_pieces heading all bands =
    table_pieces heading (codes "left") (codes "works") all ++ (rows_pieces all (band_rows bands) ++ Fixed fragment.TableEnd ∷ [])

-- the submitters with the most entries; the bars are parts of the greatest number
unfoldable pub submitters_pieces : ℕ → List SubmitterEntries → List Piece
submitters_pieces whole cs =
    table_pieces (codes "Submitters with the most entries, ten at most") (codes "submitter") (codes "entries") whole
    ++ (flat_map (submitter_pieces whole) cs ++ Fixed fragment.TableEnd ∷ [])

-- the works with the most conflicts; the bars are parts of the greatest number
unfoldable pub conflicts_pieces : ℕ → List Conflicted → List Piece
conflicts_pieces whole cs =
    table_pieces (codes "Works with the most conflicts, ten at most") (codes "work") (codes "conflicts") whole
    ++ (flat_map (conflict_pieces whole) cs ++ Fixed fragment.TableEnd ∷ [])

-- the table of submitters, where there is one
unfoldable pub some_submitters_pieces : List SubmitterEntries → List Piece
some_submitters_pieces [] = []
some_submitters_pieces (c ∷ cs) = submitters_pieces c.entries (c ∷ cs)

-- the table of works with conflicts, where there is one
unfoldable pub some_conflicts_pieces : List Conflicted → List Piece
some_conflicts_pieces [] = []
some_conflicts_pieces (c ∷ cs) = conflicts_pieces c.conflicts (c ∷ cs)

-- The page.

-- the style of the page
unfoldable pub summary_style_pieces : List Piece
summary_style_pieces = Fixed fragment.Style ∷ Fixed fragment.StyleText ∷ Fixed fragment.StyleTables ∷ Fixed fragment.StyleSummary ∷ Fixed fragment.StyleEnd ∷ []

-- the beginning of the page, up to its heading
unfoldable pub summary_title_pieces : List ℕ → List Piece
summary_title_pieces name =
    Fixed fragment.Head
    ∷ (file_name name ++ Fixed fragment.SummaryTitle ∷ (summary_style_pieces ++ Fixed fragment.SummaryOf ∷ (file_name name ++ Fixed fragment.H1End ∷ [])))

-- a number, with its name
unfoldable pub fact_pieces : List ℕ × ℕ → List Piece
fact_pieces fact = Fixed fragment.Label ∷ (text_pieces fact.0 ++ Fixed fragment.LabelEnd ∷ Number fact.1 ∷ Fixed fragment.Dd ∷ [])

-- numbers, with their names
unfoldable pub facts_pieces : List (List ℕ × ℕ) → List Piece
facts_pieces facts = flat_map fact_pieces facts

-- the names and numbers of entries, works, current claims and submitters
abbrev pub fact_rows : ℕ → ℕ → ℕ → ℕ → List (List ℕ × ℕ)
fact_rows entries works claims submitters =
    (codes "entries", entries) ∷ (codes "works", works) ∷ (codes "current claims", claims) ∷ (codes "submitters", submitters) ∷ []

-- how many entries, works, current claims and submitters there are
unfoldable pub numbers_pieces : ℕ → ℕ → ℕ → ℕ → List Piece
numbers_pieces entries works claims submitters =
    Fixed fragment.Facts ∷ (facts_pieces (fact_rows entries works claims submitters) ++ Fixed fragment.FactsEnd ∷ [])

-- the works by what is left of a right: 0 performing, 1 mechanical, 2 synchronization
abbrev pub right_pieces : List ℕ → ℕ → List Row → List Piece
right_pieces heading right rows = bands_pieces heading (last_work rows) (bands_of (map (left_of right rows) (works rows)))

-- the works by what is left of each right
unfoldable pub rights_pieces : List Row → List Piece
rights_pieces rows =
    right_pieces (codes "Works by what is left of the performing right") 0 rows
    ++ (right_pieces (codes "Works by what is left of the mechanical right") 1 rows
    ++ right_pieces (codes "Works by what is left of the synchronization right") 2 rows)

-- the numbers of the page: entries, works, current claims, submitters, and the entries by status
unfoldable pub counts_pieces : ℕ → ℕ → ℕ → Tally → List Piece
counts_pieces entries works submitters tally = numbers_pieces entries works tally.current submitters ++ statuses_pieces entries tally

-- the submitters with the most entries, and the works with the most conflicts
unfoldable pub tops_pieces : List SubmitterEntries → List Conflicted → List Piece
tops_pieces most conflicts = some_submitters_pieces most ++ some_conflicts_pieces conflicts

-- the page of the summary of a history, in a register with this name
abbrev pub summary_page : List ℕ → List EntryValue → List Piece
summary_page name history =
    summary_title_pieces name
    ++ (counts_pieces (length history) (last_work (rows_of history)) (length (different (submitters history))) (tally_of (rows_of history) history)
    ++ (rights_pieces (rows_of history) ++ (tops_pieces (most_entries history) (largest history) ++ Fixed fragment.End ∷ [])))
