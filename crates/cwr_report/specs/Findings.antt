-- The findings of a file: each fault of each of its transactions, with its line, its fields and what was expected
-- there.
use Rattle.std.specs.Prelude.{ℕ, ◌+◌, ◌*◌, ◌==◌, List, [], ◌∷◌, ◌++◌, length, map, Option, Some, None, if◌then◌else◌}
use Rattle.cwr_field.specs.Iswc.{check_digit}
use Rattle.cwr_field.specs.Number.{number_of}
use Rattle.cwr_record.specs.Columns.{field_at, work_head_iswc}
use Rattle.cwr_record.specs.RecordTypes.{type_of}
use Rattle.cwr_record.specs.declared.columns.Column.{Column}
use Rattle.cwr_record.specs.declared.record_type.RecordType.{RecordType}
use Rattle.cwr_record.specs.declared.record_type.RecordType.TheVariants.{Spt}
use Rattle.cwr_grammar.specs.RawParts.{RawParts}
use Rattle.cwr_call.specs.declared.transaction_fault.Fault.{Fault}
use Rattle.cwr_rules.specs.declared.added.AddedShares.{AddedShares}
use Rattle.cwr_rules.specs.declared.added.Over.{Over}
use Rattle.cwr_rules.specs.Added.{added_in}
use Rattle.cwr_check.specs.CheckText.{faults_in}
use Rattle.cwr_report.specs.declared.latest.Latest.{Latest}
use Rattle.cwr_report.specs.declared.finding.Finding.{Finding}
use Rattle.cwr_report.specs.declared.finding.Expected.{Expected}
use Rattle.cwr_report.specs.declared.finding.Expected.TheVariants.{Rule, FollowerOf, CheckDigit, Party, Ownership, Collection}
use Rattle.cwr_report.specs.Fields.{fields_of}
use Rattle.cwr_report.specs.Latest.{latest_of}
use Rattle.cwr_report.specs.Walks.{line_at, lines_before}

-- the column of the nine digits of an ISWC, behind its T
abbrev pub iswc_digits : Column
iswc_digits = record { start = work_head_iswc.start + 1; width = 9 }

-- J4: the check digit of the nine digits, where there are nine digits
abbrev pub digit_expected : Option ℕ → Expected
digit_expected None = Rule
digit_expected (Some digits) = CheckDigit (check_digit digits)

-- J8: for an SPT the party of the last SPU, for an SWT that of the last SWR
abbrev pub party_expected : RecordType → Latest → Expected
party_expected Spt latest = Party latest.publisher
party_expected _ latest = Party latest.writer

-- J15: the first territory whose collection totals are too large
abbrev pub collection_expected : Option Over → Expected
collection_expected None = Rule
collection_expected (Some over) = Collection over

-- what the rule J with this number requires of a line, given the lines before it in the transaction and the
-- transaction's sums
abbrev pub expected_of : ℕ → List ℕ → Latest → AddedShares → Expected
expected_of number line latest added =
    if number == 1 then FollowerOf latest.leading
    else if number == 4 then digit_expected (number_of (field_at line iswc_digits))
    else if number == 8 then party_expected (type_of line) latest
    else if number == 11 then Ownership added.ownership.performing
    else if number == 12 then Ownership added.ownership.mechanical
    else if number == 13 then Ownership added.ownership.synchronization
    else if number == 15 then collection_expected added.over
    else Rule

-- the finding for a fault in this line, of a transaction that begins in the line `first` of the file, from 1
abbrev pub finding_at : ℕ → ℕ → ℕ → Fault → List ℕ → Latest → AddedShares → Finding
finding_at group transaction first fault line latest added = record {
  group = group;
  transaction = transaction;
  fault = fault;
  line = first + fault.sequence;
  fields = fields_of fault.number line;
  expected = expected_of fault.number line latest added;
}

-- the finding for a fault of a transaction that begins in the line `first` of the file, from 1
abbrev pub finding_of : ℕ → RawParts → Fault → Finding
finding_of first t fault =
    finding_at
    t.group
    t.sequence
    first
    fault
    (line_at t.lines fault.sequence)
    (latest_of (lines_before t.lines fault.sequence))
    (added_in t)

-- The line of the file where a transaction begins, from 1, where the transactions before it have n lines in all: HDR,
-- its group's GRH, and a GRH and a GRT for each group before stand before it too.
abbrev pub first_line : ℕ → RawParts → ℕ
first_line n t = 2 * t.group + n + 1

-- a finding for each fault of a transaction, in order
abbrev pub findings_in : List ℕ → ℕ → RawParts → List Finding
findings_in submitter first t = map (finding_of first t) (faults_in submitter t)

-- a finding for each fault of each transaction, in order, where the transactions before have n lines in all
abbrev pub findings_after : List ℕ → ℕ → List RawParts → List Finding
findings_after submitter n [] = []
findings_after submitter n (t ∷ ts) = findings_in submitter (first_line n t) t ++ findings_after submitter (n + length t.lines) ts
