-- A report as one JSON object.
use Rattle.std.specs.Prelude.{ℕ, ◌-◌, Bool, List, [], ◌∷◌, ◌++◌, map, codes, Option, Some, None, true, false}
use Rattle.std.specs.List.{flat_map}
use Rattle.std.specs.Str.{encode_utf8_all}
use Rattle.std.specs.Str.Lines.{lines}
use Rattle.serde_json.specs.Data.{Data, null, boolean, number, unsigned, string, array, object, Members, no_members, put}
use Rattle.serde_json.specs.View.{items_of}
use Rattle.serde_json.specs.Written.{compact_text}
use Rattle.cwr_report.specs.declared.finding.Finding.{Finding}
use Rattle.cwr_report.specs.declared.finding.Spot.{Spot}
use Rattle.cwr_report.specs.declared.file_finding.FileFinding.{FileFinding}
use Rattle.cwr_report.specs.declared.file_finding.RecordPlace.{RecordPlace}
use Rattle.cwr_report.specs.declared.file_finding.RecordPlace.TheVariants as place
use Rattle.cwr_report.specs.declared.file_finding.WrongByte.{WrongByte}
use Rattle.report_texts.specs.FileText.{counted, file_rule_text, file_wanted_text}
use Rattle.report_texts.specs.LongText.{name_text, stands_at, message_of, wanted_text}
use Rattle.cwr_report.specs.Report.{IsToldBy}
use Rattle.cwr_report.specs.Reported.{Reported}
use Rattle.cwr_report.specs.Walks.{line_at}

-- bytes as UTF-8: each byte is the character with its number
abbrev pub latin : List ℕ → List ℕ
latin bytes = encode_utf8_all bytes

-- bytes as a JSON string: each byte is the character with its number
abbrev pub text_data : List ℕ → Data
text_data bytes = string (latin bytes)

-- a number as a JSON value
abbrev pub count_data : ℕ → Data
count_data n = number (unsigned n)

-- a number, and null for `None`
abbrev pub option_data : Option ℕ → Data
option_data None = null
option_data (Some n) = count_data n

-- a record type, and null for `None`
abbrev pub type_data : Option (List ℕ) → Data
type_data None = null
type_data (Some rtype) = text_data rtype

-- the members of a field that breaks a rule: its name, its column, and its bytes in the line
abbrev pub field_members : List ℕ → Spot → Members
field_members line spot =
    put (codes "bytes") (text_data (stands_at line spot.column))
    (put (codes "length") (count_data spot.column.width)
    (put (codes "start") (count_data spot.column.start)
    (put (codes "name") (text_data (name_text spot.name)) no_members)))

-- the object of a field, where there is one
abbrev pub spot_data : List ℕ → Option Spot → List Data
spot_data line None = []
spot_data line (Some spot) = object (field_members line spot) ∷ []

-- an array of the fields that break a rule
abbrev pub fields_data : List ℕ → List (Option Spot) → Data
fields_data line spots = array (items_of (flat_map (spot_data line) spots))

-- where a fault is: its line, and record, group, transaction and sequence where it has them
abbrev pub place_members : ℕ → Data → Option ℕ → Option ℕ → Option ℕ → Members
place_members line rtype group transaction detail =
    put (codes "sequence") (option_data detail)
    (put (codes "transaction") (option_data transaction)
    (put (codes "group") (option_data group)
    (put (codes "record") rtype
    (put (codes "line") (count_data line) no_members))))

-- the members of a fault: where it is, its rule and the rule's text, fields, byte, and what was expected
abbrev pub fault_members : Members → Data → Data → Data → Data → Data → Members
fault_members at rule text fields byte expected =
    put (codes "expected") expected
    (put (codes "byte") byte
    (put (codes "fields") fields
    (put (codes "text") text
    (put (codes "rule") rule at))))

-- the object of a fault of a transaction, in this line
abbrev pub fault_object : List ℕ → Finding → Data
fault_object line f =
    object (fault_members
    (place_members f.line (text_data f.fault.rtype) (Some f.group) (Some f.transaction) (Some f.fault.sequence))
    (text_data (counted (codes "J") f.fault.number))
    (text_data (message_of f.fault.number))
    (fields_data line f.fields)
    null
    (text_data (wanted_text f.fault.number f.expected)))

-- the object of a fault of a transaction, in a file with these lines
abbrev pub finding_data : List (List ℕ) → Finding → Data
finding_data lines f = fault_object (line_at lines (f.line - 1)) f

-- where the fault of a file is: the members of its line and its record
abbrev pub file_place : ℕ → List ℕ → RecordPlace → Members
file_place line rtype place.End = place_members line null None None None
file_place line rtype place.AfterTrailer = place_members line null None None None
file_place line rtype place.Nameless = place_members line null None None None
file_place line rtype place.File = place_members line (text_data rtype) None None None
file_place line rtype (place.Group group) = place_members line (text_data rtype) (Some group) None None
file_place line rtype (place.Transaction group transaction detail) =
    place_members line (text_data rtype) (Some group) (Some transaction) (Some detail)

-- the object of the wrong byte, and null for `None`
abbrev pub byte_data : Option WrongByte → Data
byte_data None = null
byte_data (Some wrong) =
    object (put (codes "in_file") (count_data wrong.in_file)
    (put (codes "in_line") (count_data wrong.in_line)
    (put (codes "byte") (count_data wrong.byte) no_members)))

-- the object of the fault of a file, in this line
abbrev pub file_fault_object : List ℕ → FileFinding → Data
file_fault_object line f =
    object (fault_members
    (file_place f.line f.rtype f.place)
    (text_data (counted (codes "F") f.number))
    (text_data (file_rule_text f.number))
    (fields_data line f.fields)
    (byte_data f.byte)
    (text_data (file_wanted_text f.expected)))

-- the object of the fault of a file, in a file with these lines
abbrev pub file_data : List (List ℕ) → FileFinding → Data
file_data lines f = file_fault_object (line_at lines (f.line - 1)) f

-- the faults of a report: those of transactions, or the one of the file
abbrev pub faults_data : List (List ℕ) → List Finding → Option FileFinding → List Data
faults_data lines findings None = map (finding_data lines) findings
faults_data lines findings (Some refused) = file_data lines refused ∷ []

-- whether the file is refused
abbrev pub refused_data : Option FileFinding → Data
refused_data None = boolean false
refused_data (Some refused) = boolean true

-- the members of a report on a file with these lines
abbrev pub report_members : List (List ℕ) → Reported → Members
report_members lines r =
    put (codes "faulty") (count_data r.faulty)
    (put (codes "transactions") (count_data r.transactions)
    (put (codes "refused") (refused_data r.refused)
    (put (codes "faults") (array (items_of (faults_data lines r.findings r.refused))) no_members)))

-- the members, and the name of the file where there is one
abbrev pub with_file : Option (List ℕ) → Members → Members
with_file None ms = ms
with_file (Some name) ms = put (codes "file") (string name) ms

-- a value as a text, and LF
abbrev pub json_line : Data → List ℕ
json_line value = compact_text value ++ 10 ∷ []

-- a report as one line of JSON
abbrev pub report_json : List (List ℕ) → Reported → List ℕ
report_json lines r = json_line (object (report_members lines r))

-- what a check prints as JSON
abbrev pub IsJsonCheck : List ℕ → List ℕ → Bool → Type 0
IsJsonCheck bytes told clean = IsToldBy (λ b r. report_json (lines b) r) bytes told clean
