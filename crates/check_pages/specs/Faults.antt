-- A fault on a page: its rule, its fields, and what was expected.
use Rattle.std.specs.Prelude.{ℕ, ◌+◌, ◌-◌, nat_lt, List, [], ◌∷◌, ◌++◌, length, replicate, Option, Some, None, if◌then◌else◌}
use Rattle.std.specs.List.{flat_map}
use Rattle.cwr_record.specs.declared.columns.Column.{Column}
use Rattle.cwr_report.specs.declared.file_finding.FileFinding.{FileFinding}
use Rattle.cwr_report.specs.declared.file_finding.WrongByte.{WrongByte}
use Rattle.cwr_report.specs.declared.finding.Finding.{Finding}
use Rattle.cwr_report.specs.declared.finding.Spot.{Spot}
use Rattle.report_texts.specs.FileText.{file_rule_text, file_wanted_text}
use Rattle.report_texts.specs.LongText.{message_of, name_text, stands_at, wanted_text}
use Rattle.html_text.specs.Contexts.{of_files, of_transactions}
use Rattle.html_text.specs.Pieces.{Piece, Fixed, Number, Byte as Letter, field_shown, shown, text_pieces}
use Rattle.html_text.specs.declared.fragment.Fragment.TheVariants.{Fault, FaultRule, FaultText, FaultOf, FaultNext, FaultNextEnd, FaultSmallEnd, FaultNextClose, H4End, Byte, ByteLine, ByteLineEnd, ByteBehind, ByteBehindEnd, ByteEnd, Field, FieldStart, FieldLength, FieldBytes, FieldEnd, Expected, PEnd, Beyond, Dot, Of, To}
use Rattle.check_pages.specs.Boxes.{most_places}

-- the name of a rule: its letter and its number
unfoldable pub rule_pieces : ℕ → ℕ → List Piece
rule_pieces letter number = Letter letter ∷ Number number ∷ []

-- a link to the next fault of the rule behind the k-th, where there is one
unfoldable pub next_pieces : ℕ → ℕ → ℕ → ℕ → List Piece
next_pieces letter number k total =
    if nat_lt k total then
    Fixed FaultNext ∷ (rule_pieces letter number ++ Fixed Dot ∷ Number (k + 1) ∷ Fixed FaultNextEnd ∷ (rule_pieces letter number ++ Fixed FaultNextClose ∷ []))
    else Fixed FaultSmallEnd ∷ []

-- that it is the k-th fault of the rule, where there are several
unfoldable pub count_pieces : ℕ → ℕ → ℕ → ℕ → List Piece
count_pieces letter number k total =
    if nat_lt 1 total then Fixed FaultOf ∷ Number k ∷ Fixed Of ∷ Number total ∷ next_pieces letter number k total else []

-- the beginning of the heading of a fault, by which links find it
unfoldable pub id_pieces : ℕ → ℕ → ℕ → List Piece
id_pieces letter number k = Fixed Fault ∷ (rule_pieces letter number ++ Fixed Dot ∷ Number k ∷ [])

-- a link to the page of the rule
unfoldable pub link_pieces : ℕ → ℕ → List Piece
link_pieces letter number = Fixed FaultRule ∷ (rule_pieces letter number ++ Fixed To ∷ (rule_pieces letter number ++ Fixed FaultText ∷ []))

-- the heading of a fault: the k-th of its rule
unfoldable pub head_pieces : ℕ → ℕ → ℕ → ℕ → List ℕ → List Piece
head_pieces letter number k total text =
    id_pieces letter number k ++ (link_pieces letter number ++ (text_pieces text ++ (count_pieces letter number k total ++ Fixed H4End ∷ [])))

-- what a field is called, and where it stands
unfoldable pub name_pieces : Spot → List Piece
name_pieces spot =
    Fixed Field ∷ (text_pieces (name_text spot.name) ++ Fixed FieldStart ∷ Number spot.column.start ∷ Fixed FieldLength ∷ Number spot.column.width ∷ [])

-- what stands in a column, with a sign for each place that the line has not
unfoldable pub standing_pieces : List ℕ → Column → List Piece
standing_pieces line column = field_shown (stands_at line column) ++ replicate (column.width - length (stands_at line column)) (Fixed Beyond)

-- a field
unfoldable pub spot_pieces : List ℕ → Spot → List Piece
spot_pieces line spot = name_pieces spot ++ Fixed FieldBytes ∷ (standing_pieces line spot.column ++ Fixed FieldEnd ∷ [])

-- a field, where there is one
abbrev pub field_pieces : List ℕ → Option Spot → List Piece
field_pieces line None = []
field_pieces line (Some spot) = spot_pieces line spot

-- the fields that break the rule
abbrev pub fields_pieces : List ℕ → List (Option Spot) → List Piece
fields_pieces line spots = flat_map (field_pieces line) spots

-- what was expected
unfoldable pub expected_pieces : List ℕ → List Piece
expected_pieces text = Fixed Expected ∷ (shown text ++ Fixed PEnd ∷ [])

-- where the wrong byte stands in its line, with a link to it where its box shows that place
unfoldable pub byte_place_pieces : ℕ → List Piece
byte_place_pieces place =
    if nat_lt most_places place then Fixed ByteBehind ∷ Number place ∷ Fixed ByteBehindEnd ∷ []
    else Fixed ByteLine ∷ Number place ∷ Fixed ByteLineEnd ∷ []

-- the wrong byte, where there is one
unfoldable pub byte_pieces : Option WrongByte → List Piece
byte_pieces None = []
byte_pieces (Some wrong) =
    Fixed Byte ∷ Number wrong.byte ∷ (byte_place_pieces wrong.in_line ++ Number wrong.in_file ∷ Fixed ByteEnd ∷ [])

-- a fault of a transaction, in this line: the k-th of its rule
unfoldable pub fault_pieces : List ℕ → Finding → ℕ → ℕ → List Piece
fault_pieces line f k total =
    head_pieces of_transactions f.fault.number k total (message_of f.fault.number)
    ++ (fields_pieces line f.fields ++ expected_pieces (wanted_text f.fault.number f.expected))

-- the fault for which a file is refused, in this line
unfoldable pub file_fault_pieces : List ℕ → FileFinding → List Piece
file_fault_pieces line f =
    head_pieces of_files f.number 1 1 (file_rule_text f.number)
    ++ (byte_pieces f.byte ++ (fields_pieces line f.fields ++ expected_pieces (file_wanted_text f.expected)))
