-- What a rule of files requires of a line, after the lines before it, and which of its fields are not so.
use Rattle.std.specs.Prelude.{ℕ, ◌+◌, ◌-◌, not, ◌==◌, List, [], ◌∷◌, length, Option, Some, None, is_none, if◌then◌else◌}
use Rattle.cwr_field.specs.Calendar.{day_of, time_of}
use Rattle.cwr_record.specs.Columns as column
use Rattle.cwr_record.specs.Columns.{field_at}
use Rattle.cwr_record.specs.RecordTypes.{type_of}
use Rattle.cwr_record.specs.declared.columns.Column.{Column}
use Rattle.cwr_record.specs.declared.record_type.RecordType.{RecordType}
use Rattle.cwr_record.specs.declared.record_type.RecordType.TheVariants.{Grt, Nwr, Rev, Ack, Other, Bad}
use Rattle.cwr_grammar.specs.FaultTests.{is_number}
use Rattle.cwr_grammar.specs.Roles.{number_at}
use Rattle.cwr_grammar.specs.declared.file_counts.FileCounts.{FileCounts}
use Rattle.cwr_report.specs.declared.finding.Spot.{Spot}
use Rattle.cwr_report.specs.declared.finding.FieldName.{FieldName}
use Rattle.cwr_report.specs.declared.finding.FieldName.TheVariants as name
use Rattle.cwr_report.specs.declared.file_finding.FileExpected.{FileExpected}
use Rattle.cwr_report.specs.declared.file_finding.FileExpected.TheVariants as wants
use Rattle.cwr_report.specs.Fields.{spot_where, no_fields, one_field}

-- F3: a record type, or in HDR valid dates and a valid time
abbrev pub malformed_expected : RecordType → FileExpected
malformed_expected Bad = wants.RecordType
malformed_expected _ = wants.Dates

-- F4: which records may stand after the lines before
abbrev pub record_expected : FileCounts → FileExpected
record_expected b =
    if not b.in_group then wants.OutsideGroups
    else if b.in_transaction then wants.InTransaction b.kind
    else wants.InGroup b.kind

-- F7: the group ID of the group that a GRT closes, or of the next one for a GRH
abbrev pub group_expected : FileCounts → RecordType → ℕ
group_expected b Grt = b.groups
group_expected b _ = b.groups + 1

-- F8: the sequences of a header, which begins the next transaction
abbrev pub header_sequences : FileCounts → FileExpected
header_sequences b = wants.Sequences b.transactions 0

-- F8: the sequences of a detail, which continues the last transaction
abbrev pub detail_sequences : FileCounts → FileExpected
detail_sequences b = wants.Sequences (b.transactions - 1) (b.details + 1)

-- F8: the sequences of a record of this type
abbrev pub sequences_expected : FileCounts → RecordType → FileExpected
sequences_expected b Nwr = header_sequences b
sequences_expected b Rev = header_sequences b
sequences_expected b Ack = header_sequences b
sequences_expected b Other = header_sequences b
sequences_expected b _ = detail_sequences b

-- what the rule F with this number requires of a line, given the counts of the lines before it
abbrev pub expected_in_line : ℕ → FileCounts → List ℕ → FileExpected
expected_in_line number b line =
    if number == 1 then wants.Header
    else if number == 2 then wants.NoControl
    else if number == 3 then malformed_expected (type_of line)
    else if number == 4 then record_expected b
    else if number == 5 then wants.Kinds
    else if number == 6 then wants.Kind b.kind
    else if number == 7 then wants.Group (group_expected b (type_of line))
    else if number == 8 then sequences_expected b (type_of line)
    else if number == 9 then wants.GroupCounts b.transactions (b.group_lines + 2)
    else if number == 10 then wants.FileCounts b.groups b.all_transactions (b.lines + 1)
    else if number == 11 then wants.Tail
    else wants.Length (length line)

-- what it requires at the end of the file: F1 an HDR, F11 a TRL
abbrev pub expected_at_end : ℕ → FileExpected
expected_at_end number = if number == 1 then wants.Header else wants.Trailer

-- what it requires of the line that stands there, or of the end of the file where there is none
abbrev pub file_expected : ℕ → FileCounts → Option (List ℕ) → FileExpected
file_expected number b None = expected_at_end number
file_expected number b (Some line) = expected_in_line number b line

-- the field, where its number is not n; else `None`
abbrev pub wrong_number : List ℕ → ℕ → FieldName → Column → Option Spot
wrong_number line n called at = spot_where (not (is_number (number_at line at) n)) called at

-- the field, where it has no valid date; else `None`
abbrev pub wrong_day : List ℕ → FieldName → Column → Option Spot
wrong_day line called at = spot_where (is_none (day_of (field_at line at))) called at

-- the field, where it has no valid time; else `None`
abbrev pub wrong_time : List ℕ → FieldName → Column → Option Spot
wrong_time line called at = spot_where (is_none (time_of (field_at line at))) called at

-- the dates and the time of an HDR that are not valid
abbrev pub wrong_header_dates : List ℕ → List (Option Spot)
wrong_header_dates line =
    wrong_day line name.CreationDate column.header_creation_date
    ∷ wrong_time line name.CreationTime column.header_creation_time
    ∷ wrong_day line name.TransmissionDate column.header_transmission_date
    ∷ []

-- the column of the group ID in a GRT, or in a GRH
abbrev pub group_column : RecordType → Column
group_column Grt = column.group_trailer_group
group_column _ = column.group_head_group

-- the transaction sequence and the record sequence, where they are not these
abbrev pub wrong_sequences : List ℕ → ℕ → ℕ → List (Option Spot)
wrong_sequences line transaction place =
    wrong_number line transaction name.TransactionSequence column.prefix_transaction
    ∷ wrong_number line place name.RecordSequence column.prefix_detail
    ∷ None
    ∷ []

-- the counts of a GRT that are not these
abbrev pub wrong_group_counts : List ℕ → ℕ → ℕ → List (Option Spot)
wrong_group_counts line transactions records =
    wrong_number line transactions name.TransactionCount column.group_trailer_transactions
    ∷ wrong_number line records name.RecordCount column.group_trailer_records
    ∷ None
    ∷ []

-- the counts of a TRL that are not these
abbrev pub wrong_file_counts : List ℕ → ℕ → ℕ → ℕ → List (Option Spot)
wrong_file_counts line groups transactions records =
    wrong_number line groups name.GroupCount column.file_trailer_groups
    ∷ wrong_number line transactions name.TransactionCount column.file_trailer_transactions
    ∷ wrong_number line records name.RecordCount column.file_trailer_records
    ∷ []

-- the fields of a line that are not as expected
abbrev pub fields_in_line : List ℕ → FileExpected → List (Option Spot)
fields_in_line line wants.Header = one_field name.RecordType column.every_record_type
fields_in_line line wants.NoControl = no_fields
fields_in_line line wants.RecordType = one_field name.RecordType column.every_record_type
fields_in_line line wants.Dates = wrong_header_dates line
fields_in_line line wants.OutsideGroups = one_field name.RecordType column.every_record_type
fields_in_line line (wants.InGroup kind) = one_field name.RecordType column.every_record_type
fields_in_line line (wants.InTransaction kind) = one_field name.RecordType column.every_record_type
fields_in_line line wants.Kinds = one_field name.TransactionType column.group_head_transaction_type
fields_in_line line (wants.Kind kind) = one_field name.RecordType column.every_record_type
fields_in_line line (wants.Group id) = one_field name.GroupId (group_column (type_of line))
fields_in_line line (wants.Sequences transaction place) = wrong_sequences line transaction place
fields_in_line line (wants.GroupCounts transactions records) = wrong_group_counts line transactions records
fields_in_line line (wants.FileCounts groups transactions records) = wrong_file_counts line groups transactions records
fields_in_line line wants.Trailer = no_fields
fields_in_line line wants.Tail = no_fields
fields_in_line line (wants.Length size) = no_fields

-- the same of the line that stands there; no field where there is none
abbrev pub fields_of_file : Option (List ℕ) → FileExpected → List (Option Spot)
fields_of_file None expected = no_fields
fields_of_file (Some line) expected = fields_in_line line expected
