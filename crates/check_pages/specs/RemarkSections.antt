-- A line with its remarks: the line in its box, and the remarks.
use Rattle.std.specs.Prelude.{ℕ, ◌+◌, ◌-◌, ◌==◌, nat_lt, List, [], ◌∷◌, ◌++◌, Option, Some, None, if◌then◌else◌}
use Rattle.cwr_record.specs.Columns.{from}
use Rattle.cwr_record.specs.declared.columns.Column.{Column}
use Rattle.cwr_remarks.specs.declared.remark.Remark.{Remark}
use Rattle.cwr_remarks.specs.declared.remark.Remarked.{Remarked}
use Rattle.cwr_remarks.specs.declared.remark.Remarked.TheVariants.{ByteOrderMark, Utf16, Gzip, SecondFile, CwrVersion, SenderType, HighBytes, PastLayout, UnknownType, OnlyExcluded}
use Rattle.cwr_remarks.specs.Texts.{what_text}
use Rattle.cwr_report.specs.Walks.{line_at}
use Rattle.html_text.specs.Pieces.{Piece, Fixed, Number, shown}
use Rattle.html_text.specs.declared.fragment.Fragment.TheVariants as fragment
use Rattle.check_pages.specs.Sections.{box_pieces}

-- so many bytes from a position on
abbrev pub first_bytes : ℕ → ℕ → List Column
first_bytes start width = from start width ∷ []

-- what is marked of a line for a remark
abbrev pub remark_columns : Remarked → List Column
remark_columns ByteOrderMark = first_bytes 1 3
remark_columns Utf16 = first_bytes 1 2
remark_columns Gzip = first_bytes 1 2
remark_columns SecondFile = first_bytes 1 3
remark_columns (CwrVersion version) = first_bytes 102 3
remark_columns (SenderType kind) = first_bytes 4 2
remark_columns (HighBytes first count) = first_bytes first 1
remark_columns (PastLayout size layout) = if nat_lt layout size then first_bytes (layout + 1) (size - layout) else []
remark_columns UnknownType = first_bytes 1 3
remark_columns OnlyExcluded = []

-- what is marked for those of the remarks that are on this line, up to the first that is not
abbrev pub remark_columns_on : ℕ → List Remark → List Column
remark_columns_on number [] = []
remark_columns_on number (r ∷ rs) = if r.line == number then remark_columns r.what ++ remark_columns_on number rs else []

-- the record type of the line, where the remark is on a record
unfoldable pub type_pieces : Option (List ℕ) → List Piece
type_pieces None = []
type_pieces (Some rtype) = Fixed fragment.Colon ∷ shown rtype

-- the heading of a section of remarks
unfoldable pub remark_heading_pieces : Remark → List Piece
remark_heading_pieces r = Fixed fragment.Section ∷ Number r.line ∷ (type_pieces r.rtype ++ Fixed fragment.H3End ∷ [])

-- what is marked for a remark and those behind it on its line
abbrev pub remark_columns_from : Remark → List Remark → List Column
remark_columns_from r later = remark_columns r.what ++ remark_columns_on r.line later

-- the beginning of the section of a remark, and of those behind it on its line
unfoldable pub remark_opening_pieces : List ℕ → Remark → List Remark → List Piece
remark_opening_pieces line r later = remark_heading_pieces r ++ box_pieces line (remark_columns_from r later) fragment.Mark

-- the beginning of a section, where the remark before it is on another line
unfoldable pub remark_opened_pieces : List ℕ → ℕ → Remark → List Remark → List Piece
remark_opened_pieces line before r later = if r.line == before then [] else remark_opening_pieces line r later

-- the text of a remark
unfoldable pub remarked_pieces : Remarked → List Piece
remarked_pieces what = Fixed fragment.Remark ∷ (shown (what_text what) ++ Fixed fragment.PEnd ∷ [])

-- the line of the first of the remarks; 0 where there is none
abbrev pub line_of_first : List Remark → ℕ
line_of_first [] = 0
line_of_first (r ∷ rs) = r.line

-- the end of the section of this line, where the remark behind it is on another line
unfoldable pub remark_closed_pieces : ℕ → List Remark → List Piece
remark_closed_pieces number later = if number == line_of_first later then [] else Fixed fragment.SectionEnd ∷ []

-- a remark, in a section that begins where the one before it is on another line, and ends where the one behind it is
unfoldable pub remark_pieces : List ℕ → ℕ → Remark → List Remark → List Piece
remark_pieces line before r later = remark_opened_pieces line before r later ++ (remarked_pieces r.what ++ remark_closed_pieces r.line later)

-- the remarks on a file with these lines, behind one on a line with this number
unfoldable pub remarks_pieces : List (List ℕ) → ℕ → List Remark → List Piece
remarks_pieces lines before [] = []
remarks_pieces lines before (r ∷ later) = remark_pieces (line_at lines (r.line - 1)) before r later ++ remarks_pieces lines r.line later
