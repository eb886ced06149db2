-- What the HDR of a file says it is, where the profile does not know that.
use Rattle.std.specs.Prelude.{ℕ, Bool, ◌||◌, List, [], ◌∷◌, ◌++◌, Option, Some, None, codes, is_some, if◌then◌else◌}
use Rattle.std.specs.Str.{bytes_eq}
use Rattle.cwr_field.specs.Layout.{field, is_blank}
use Rattle.cwr_field.specs.Number.{number_of}
use Rattle.cwr_record.specs.Columns as column
use Rattle.cwr_record.specs.Columns.{field_at}
use Rattle.cwr_record.specs.RecordTypes.{type_of}
use Rattle.cwr_record.specs.declared.record_type.RecordType.{RecordType}
use Rattle.cwr_record.specs.declared.record_type.RecordType.TheVariants.{Hdr}
use Rattle.cwr_remarks.specs.declared.remark.Remark.{Remark}
use Rattle.cwr_remarks.specs.declared.remark.Remarked.{Remarked}
use Rattle.cwr_remarks.specs.declared.remark.Remarked.TheVariants.{CwrVersion, SenderType}
use Rattle.cwr_remarks.specs.OnLine.{remark_on}

-- a remark on the CWR version in this field, where it is neither blank nor 2.2
abbrev pub other_version : List ℕ → Option Remarked
other_version named = if is_blank named || bytes_eq named (codes "2.2") then None else Some (CwrVersion named)

-- the sender type is PB, AA, SO or WR: a publisher, an administrative agency, a society or a writer
abbrev pub is_known_sender : List ℕ → Bool
is_known_sender kind =
    bytes_eq kind (codes "PB")
    || bytes_eq kind (codes "AA")
    || bytes_eq kind (codes "SO")
    || bytes_eq kind (codes "WR")

-- a remark on the sender type in this field, where it is none of these, nor two digits, with which a number of more
-- than nine begins
abbrev pub other_sender : List ℕ → Option Remarked
other_sender kind = if is_known_sender kind || is_some (number_of kind) then None else Some (SenderType kind)

-- the sender type of an HDR: the first two bytes of the submitter's field
abbrev pub sender_type_in : List ℕ → List ℕ
sender_type_in line = field line column.header_sender.start 2

-- a remark on the version of a line of this type, where it is an HDR
abbrev pub version_in : RecordType → List ℕ → Option Remarked
version_in Hdr line = other_version (field_at line column.header_version)
version_in _ line = None

-- a remark on the sender type of a line of this type, where it is an HDR
abbrev pub sender_in : RecordType → List ℕ → Option Remarked
sender_in Hdr line = other_sender (sender_type_in line)
sender_in _ line = None

-- the remarks on the first line of a file, which has this type
abbrev pub remarks_on_header : RecordType → List ℕ → List Remark
remarks_on_header t line = remark_on 1 line (version_in t line) ++ remark_on 1 line (sender_in t line)

-- the remarks on the HDR of a file with these lines, where the file begins with one
abbrev pub header_remarks : List (List ℕ) → List Remark
header_remarks [] = []
header_remarks (line ∷ after) = remarks_on_header (type_of line) line
