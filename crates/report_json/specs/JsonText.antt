-- A report as JSON, part by part as it is written.
use Rattle.std.specs.Prelude.{ℕ, List, [], ◌∷◌, ◌++◌, Bool, true, false, ◌||◌, ◌==◌, nat_lt, codes, Option, Some, None}
use Rattle.std.specs.Fmt.{decimal}
use Rattle.std.specs.Ordering.{nat_cmp, match_ordering}
use Rattle.std.specs.Cmp.Lexicographic.{slice_cmp}
use Rattle.json.specs.Print.{quoted}
use Rattle.serde_json.specs.Data.{Data, string, array, Members, no_members, member}
use Rattle.serde_json.specs.View.{items_of}
use Rattle.serde_json.specs.Written.{compact_text, comma_if, members_text}
use Rattle.cwr_report.specs.declared.finding.Finding.{Finding}
use Rattle.cwr_report.specs.declared.finding.Spot.{Spot}
use Rattle.cwr_report.specs.declared.file_finding.FileFinding.{FileFinding}
use Rattle.cwr_report.specs.declared.file_finding.WrongByte.{WrongByte}
use Rattle.report_json.specs.declared.json_faults.PlaceMembers.{PlaceMembers}
use Rattle.report_json.specs.declared.json_members.Member.{Member}
use Rattle.report_json.specs.declared.json_members.ReportMember.{ReportMember}
use Rattle.report_json.specs.declared.json_members.ReportMember.TheVariants as own
use Rattle.report_json.specs.Json.{text_data, count_data, option_data, type_data, fields_data, refused_data, faults_data}
use Rattle.report_texts.specs.FileText.{counted, file_rule_text, file_wanted_text}
use Rattle.report_texts.specs.LongText.{name_text, stands_at, message_of, wanted_text}
use Rattle.cwr_report.specs.Reported.{Reported}

-- the byte is not written as itself in a JSON string
abbrev pub is_changed : ℕ → Bool
is_changed byte = nat_lt byte 32 || (byte == 34) || (byte == 92) || nat_lt 127 byte

-- bytes as the text of a JSON string, with its quotes
abbrev pub string_text : List ℕ → List ℕ
string_text bytes = compact_text (text_data bytes)

-- the text of a number, and null for `None`
abbrev pub option_text : Option ℕ → List ℕ
option_text number = compact_text (option_data number)

-- the text of a field that breaks a rule
abbrev pub field_text : List ℕ → Spot → List ℕ
field_text line spot =
    codes "{\"bytes\":"
    ++ string_text (stands_at line spot.column)
    ++ codes ",\"length\":"
    ++ decimal spot.column.width
    ++ codes ",\"name\":"
    ++ string_text (name_text spot.name)
    ++ codes ",\"start\":"
    ++ decimal spot.column.start
    ++ codes "}"

-- the text of a wrong byte
abbrev pub wrong_text : WrongByte → List ℕ
wrong_text wrong =
    codes "{\"byte\":"
    ++ decimal wrong.byte
    ++ codes ",\"in_file\":"
    ++ decimal wrong.in_file
    ++ codes ",\"in_line\":"
    ++ decimal wrong.in_line
    ++ codes "}"

-- the text of the wrong byte, and null for `None`
abbrev pub byte_text : Option WrongByte → List ℕ
byte_text None = codes "null"
byte_text (Some wrong) = wrong_text wrong

-- the members group, line and record of a fault
abbrev pub where_text : Option ℕ → ℕ → Option (List ℕ) → List ℕ
where_text group line rtype =
    codes ",\"group\":"
    ++ option_text group
    ++ codes ",\"line\":"
    ++ decimal line
    ++ codes ",\"record\":"
    ++ compact_text (type_data rtype)

-- the member rule of a fault: its letter and number
abbrev pub rule_text : List ℕ → ℕ → List ℕ
rule_text letter number = codes ",\"rule\":" ++ string_text (counted letter number)

-- the members sequence, text and transaction of a fault, and the closing brace
abbrev pub tail_text : Option ℕ → List ℕ → Option ℕ → List ℕ
tail_text detail text transaction =
    codes ",\"sequence\":"
    ++ option_text detail
    ++ codes ",\"text\":"
    ++ string_text text
    ++ codes ",\"transaction\":"
    ++ option_text transaction
    ++ codes "}"

-- the text of a fault: what begins its object, what was expected, its fields, where it is, its rule, and the end
abbrev pub fault_text : List ℕ → List ℕ → List ℕ → List ℕ → List ℕ → List ℕ → List ℕ
fault_text begin expected fields place rule tail = begin ++ expected ++ codes ",\"fields\":" ++ fields ++ place ++ rule ++ tail

-- the text of a fault of a transaction, in this line
abbrev pub fault_object_text : List ℕ → Finding → List ℕ
fault_object_text line f =
    fault_text
    (codes "{\"byte\":null,\"expected\":")
    (string_text (wanted_text f.fault.number f.expected))
    (compact_text (fields_data line f.fields))
    (where_text (Some f.group) f.line (Some f.fault.rtype))
    (rule_text (codes "J") f.fault.number)
    (tail_text (Some f.fault.sequence) (message_of f.fault.number) (Some f.transaction))

-- the text of the fault of a file, in this line, given the members of its place
abbrev pub file_fault_object_text : List ℕ → FileFinding → PlaceMembers → List ℕ
file_fault_object_text line f place =
    fault_text
    (codes "{\"byte\":" ++ byte_text f.byte ++ codes ",\"expected\":")
    (string_text (file_wanted_text f.expected))
    (compact_text (fields_data line f.fields))
    (where_text place.group f.line place.rtype)
    (rule_text (codes "F") f.number)
    (tail_text place.detail (file_rule_text f.number) place.transaction)

-- a member with this value; `later` says whether a comma comes before it
abbrev pub member_text : Bool → List ℕ → List ℕ → List ℕ
member_text later name text = comma_if later ++ (quoted name ++ 58 ∷ text)

-- the members with this one more, at its place in the order of names or in place of one with its name, and the closing
-- brace
abbrev pub with_text : Bool → List ℕ → List ℕ → Members → List ℕ
with_text later name text no_members = member_text later name text ++ 125 ∷ []
with_text later name text (member l e ms) =
    match_ordering (slice_cmp nat_cmp name l)
    (member_text later name text ++ members_text true (member l e ms))
    (member_text later l text ++ members_text true ms)
    (member_text later l (compact_text e) ++ with_text true name text ms)

-- an object of these members and one more, with LF
abbrev pub line_with_text : List ℕ → List ℕ → Members → List ℕ
line_with_text name text ms = 123 ∷ (with_text false name text ms ++ 10 ∷ [])

-- the members, with one more where there is one
abbrev pub left_text : Bool → Option Member → Members → List ℕ
left_text later None ms = members_text later ms
left_text later (Some more) ms = with_text later more.name.now more.text.now ms

-- the members, behind the name of the file where there is one
abbrev pub behind_file : Option (List ℕ) → Members → Members
behind_file None ms = ms
behind_file (Some name) ms = member (codes "file") (string name) ms

-- the name of a member of a report
abbrev pub own_name : ReportMember → List ℕ
own_name own.Faults = codes "faults"
own_name own.Faulty = codes "faulty"
own_name (own.File name) = codes "file"
own_name own.Refused = codes "refused"
own_name own.Transactions = codes "transactions"

-- the value of a member of a report on a file with these lines
abbrev pub own_data : List (List ℕ) → Reported → ReportMember → Data
own_data lines r own.Faults = array (items_of (faults_data lines r.findings r.refused))
own_data lines r own.Faulty = count_data r.faulty
own_data lines r (own.File name) = string name.now
own_data lines r own.Refused = refused_data r.refused
own_data lines r own.Transactions = count_data r.transactions
