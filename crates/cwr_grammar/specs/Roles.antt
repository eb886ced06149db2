-- The role of a line in a file (CWR 2.2): what its record begins, continues or ends, and the numbers that it states. A
-- number is `None` where its field has other bytes than digits.
use Rattle.std.specs.Prelude.{ℕ, Bool, ◌&&◌, List, Option, Some, None, is_some}
use Rattle.cwr_field.specs.Number.{number_of}
use Rattle.cwr_field.specs.Calendar.{day_of, time_of}
use Rattle.cwr_record.specs.Columns as column
use Rattle.cwr_record.specs.Columns.{field_at}
use Rattle.cwr_record.specs.Kinds.{work_kind_named}
use Rattle.cwr_record.specs.RecordTypes.{type_of}
use Rattle.cwr_record.specs.declared.columns.Column.{Column}
use Rattle.cwr_record.specs.declared.record_type.RecordType.{RecordType}
use Rattle.cwr_record.specs.declared.record_type.RecordType.TheVariants.{Hdr, Grh, Grt, Trl, Nwr, Rev, Ack, Other, Bad}
use Rattle.cwr_record.specs.declared.works.WorkKind.{WorkKind}
use Rattle.cwr_record.specs.declared.works.WorkKind.TheVariants as work
use Rattle.cwr_grammar.specs.declared.role.Role.{Role}
use Rattle.cwr_grammar.specs.declared.role.Role.TheVariants.{FileHeader, GroupHeader, TransactionHeader, Detail, GroupTrailer, FileTrailer, Unnamed}

-- the number in a column of a line; `None` where its bytes are not all digits
abbrev pub number_at : List ℕ → Column → Option ℕ
number_at line c = number_of (field_at line c)

-- Creation Date, Creation Time and Transmission Date of an HDR are valid
abbrev pub is_dated : List ℕ → Bool
is_dated line =
    is_some (day_of (field_at line column.header_creation_date))
    && is_some (time_of (field_at line column.header_creation_time))
    && is_some (day_of (field_at line column.header_transmission_date))

-- the role of an HDR, with whether its dates and its time are valid
abbrev pub file_header : List ℕ → Role
file_header line = FileHeader (is_dated line)

-- the role of a GRH, by its Transaction Type (NWR, REV, or `None` for any other) and its Group ID
abbrev pub group_header : List ℕ → Role
group_header line =
    GroupHeader (work_kind_named (field_at line column.group_head_transaction_type)) (number_at line column.group_head_group)

-- the role of a transaction's header, by its kind (`None` where it is one that is not read), its Transaction Sequence
-- # and its Record Sequence #
abbrev pub transaction_header : Option WorkKind → List ℕ → Role
transaction_header kind line =
    TransactionHeader kind (number_at line column.prefix_transaction) (number_at line column.prefix_detail)

-- the role of a detail of a transaction, by its Transaction Sequence # and its Record Sequence #
abbrev pub detail : List ℕ → Role
detail line = Detail (number_at line column.prefix_transaction) (number_at line column.prefix_detail)

-- the role of a GRT, by its Group ID, Transaction Count and Record Count
abbrev pub group_trailer : List ℕ → Role
group_trailer line =
    GroupTrailer
    (number_at line column.group_trailer_group)
    (number_at line column.group_trailer_transactions)
    (number_at line column.group_trailer_records)

-- the role of a TRL, by its Group Count, Transaction Count and Record Count
abbrev pub file_trailer : List ℕ → Role
file_trailer line =
    FileTrailer
    (number_at line column.file_trailer_groups)
    (number_at line column.file_trailer_transactions)
    (number_at line column.file_trailer_records)

-- the role of a line with a record of this type
abbrev pub role_at : RecordType → List ℕ → Role
role_at Hdr line = file_header line
role_at Grh line = group_header line
role_at Grt line = group_trailer line
role_at Trl line = file_trailer line
role_at Nwr line = transaction_header (Some work.Nwr) line
role_at Rev line = transaction_header (Some work.Rev) line
role_at Ack line = transaction_header None line
role_at Other line = transaction_header None line
role_at Bad line = Unnamed
role_at _ line = detail line

-- the role of a line, by its record type and its numbers
abbrev pub role_of : List ℕ → Role
role_of line = role_at (type_of line) line
