-- A line with its faults: its place in the file, the line in its box, and the faults.
use Rattle.std.specs.Prelude.{ℕ, ◌+◌, ◌-◌, ◌==◌, nat_lt, Bool, List, [], ◌∷◌, ◌++◌, length, Option, Some, None, if◌then◌else◌}
use Rattle.std.specs.List.{count_by}
use Rattle.cwr_record.specs.declared.columns.Column.{Column}
use Rattle.cwr_report.specs.declared.finding.Finding.{Finding}
use Rattle.cwr_report.specs.declared.finding.Spot.{Spot}
use Rattle.report_texts.specs.FileText.{detail_text}
use Rattle.cwr_report.specs.Walks.{line_at}
use Rattle.html_text.specs.Pieces.{Piece, Fixed, Number, text_pieces}
use Rattle.html_text.specs.declared.fragment.Fragment.{Fragment}
use Rattle.html_text.specs.declared.fragment.Fragment.TheVariants.{Section, Colon, H3End, Pre, PreLong, PreEnd, Cut, PEnd, SectionEnd, Mark}
use Rattle.check_pages.specs.Boxes.{line_shown, most_places, places}
use Rattle.check_pages.specs.Faults.{fault_pieces}

-- the beginning of a box, which has the ruler of long lines where more than three rows are shown
abbrev pub begin_of : ℕ → Fragment
begin_of shown = if nat_lt 240 shown then PreLong else Pre

-- how long a line is, where it is not shown as a whole
unfoldable pub cut_pieces : ℕ → List Piece
cut_pieces size = if nat_lt most_places size then Fixed Cut ∷ Number size ∷ Fixed PEnd ∷ [] else []

-- a line in its box, where its fields are marked with this fragment
unfoldable pub box_pieces : List ℕ → List Column → Fragment → List Piece
box_pieces line spots begin =
    Fixed (begin_of (places (length line) spots)) ∷ (line_shown line spots begin ++ Fixed PreEnd ∷ cut_pieces (length line))

-- the heading of a section: the number of its line, and its place in the file
unfoldable pub place_pieces : ℕ → List ℕ → List Piece
place_pieces number place = Fixed Section ∷ Number number ∷ Fixed Colon ∷ (text_pieces place ++ Fixed H3End ∷ [])

-- where a field stands, where there is one
abbrev pub column_of : Option Spot → List Column
column_of None = []
column_of (Some spot) = spot.column ∷ []

-- where fields stand
abbrev pub columns_of : List (Option Spot) → List Column
columns_of [] = []
columns_of (spot ∷ spots) = column_of spot ++ columns_of spots

-- where the fields stand of those of the findings that are on this line, up to the first that is not
abbrev pub columns_on : ℕ → List Finding → List Column
columns_on number [] = []
columns_on number (f ∷ fs) = if f.line == number then columns_of f.fields ++ columns_on number fs else []

-- the place of a finding, by which its section begins
unfoldable pub heading_pieces : Finding → List Piece
heading_pieces f = place_pieces f.line (detail_text f.fault.rtype f.group f.transaction f.fault.sequence)

-- where the fields stand of a finding and of those behind it on its line
abbrev pub columns_from : Finding → List Finding → List Column
columns_from f later = columns_of f.fields ++ columns_on f.line later

-- the beginning of the section of a finding, and of those behind it on its line
unfoldable pub opening_pieces : List ℕ → Finding → List Finding → List Piece
opening_pieces line f later = heading_pieces f ++ box_pieces line (columns_from f later) Mark

-- the beginning of a section, where the finding before it is on another line
unfoldable pub opened_pieces : List ℕ → ℕ → Finding → List Finding → List Piece
opened_pieces line before f later = if f.line == before then [] else opening_pieces line f later

-- the line of the first of the findings; 0 where there is none
abbrev pub line_of_first : List Finding → ℕ
line_of_first [] = 0
line_of_first (f ∷ fs) = f.line

-- the end of the section of this line, where the finding behind it is on another line
unfoldable pub closed_pieces : ℕ → List Finding → List Piece
closed_pieces number later = if number == line_of_first later then [] else Fixed SectionEnd ∷ []

-- the finding is of the rule with this number
abbrev pub is_of : ℕ → Finding → Bool
is_of number f = f.fault.number == number

-- A finding: in a section that begins where the one before it is on another line, and ends where the one behind it is.
-- It is the k-th of its rule.
unfoldable pub finding_pieces : List ℕ → ℕ → ℕ → ℕ → Finding → List Finding → List Piece
finding_pieces line before k total f later =
    opened_pieces line before f later ++ (fault_pieces line f k total ++ closed_pieces f.line later)

-- The findings of a file with these lines behind others, of which the last comes first. All of them are counted by rule.
unfoldable pub findings_pieces : List (List ℕ) → List Finding → List Finding → List Finding → List Piece
findings_pieces lines all earlier [] = []
findings_pieces lines all earlier (f ∷ later) =
    finding_pieces (line_at lines (f.line - 1)) (line_of_first earlier) (count_by (is_of f.fault.number) earlier + 1) (count_by (is_of f.fault.number) all) f later
    ++ findings_pieces lines all (f ∷ earlier) later
