-- What a report prints of findings: lines for a person, each with LF at its end.
use Rattle.std.specs.Prelude.{ℕ, ◌-◌, ◌/◌, ◌%◌, ◌&&◌, ◌==◌, Bool, true, false, nat_le, List, [], ◌++◌, Option, Some, None, codes, drop, take, if◌then◌else◌}
use Rattle.std.specs.List.{flat_map}
use Rattle.std.specs.Fmt.{decimal}
use Rattle.std.specs.Str.{bytes_eq}
use Rattle.cwr_field.specs.Number.{number_text}
use Rattle.cwr_record.specs.declared.columns.Column.{Column}
use Rattle.cwr_acknowledgement.specs.Messages.{message_text}
use Rattle.cwr_rules.specs.declared.added.Over.{Over}
use Rattle.cwr_rules.specs.declared.totals.Totals.{Totals}
use Rattle.cwr_check.specs.CheckText.{total_line}
use Rattle.cwr_report.specs.declared.finding.Finding.{Finding}
use Rattle.cwr_report.specs.declared.finding.Spot.{Spot}
use Rattle.cwr_report.specs.declared.finding.FieldName.{FieldName}
use Rattle.cwr_report.specs.declared.finding.FieldName.TheVariants as name
use Rattle.cwr_report.specs.declared.finding.Expected.{Expected}
use Rattle.cwr_report.specs.declared.finding.Expected.TheVariants.{Rule, FollowerOf, CheckDigit, Party, Ownership, Collection}
use Rattle.report_texts.specs.Shown.{shown_text, bytes_as_printed}
use Rattle.cwr_report.specs.Walks.{line_at}

-- what a field is called
abbrev pub name_text : FieldName → List ℕ
name_text name.RecordType = codes "record type"
name_text name.WorkTitle = codes "work title"
name_text name.SubmitterWorkNumber = codes "submitter work number"
name_text name.Iswc = codes "ISWC"
name_text name.CopyrightDate = codes "copyright date"
name_text name.Duration = codes "duration"
name_text name.PartyNumber = codes "interested party number"
name_text name.PublisherPartyNumber = codes "publisher interested party number"
name_text name.PerformingOwnership = codes "PR ownership share"
name_text name.MechanicalOwnership = codes "MR ownership share"
name_text name.SynchronizationOwnership = codes "SR ownership share"
name_text name.PerformingCollection = codes "PR collection share"
name_text name.MechanicalCollection = codes "MR collection share"
name_text name.SynchronizationCollection = codes "SR collection share"
name_text name.Indicator = codes "inclusion/exclusion indicator"
name_text name.Territory = codes "TIS numeric code"
name_text name.CreationDate = codes "creation date"
name_text name.CreationTime = codes "creation time"
name_text name.TransmissionDate = codes "transmission date"
name_text name.TransactionType = codes "transaction type"
name_text name.GroupId = codes "group ID"
name_text name.TransactionSequence = codes "transaction sequence"
name_text name.RecordSequence = codes "record sequence"
name_text name.GroupCount = codes "group count"
name_text name.TransactionCount = codes "transaction count"
name_text name.RecordCount = codes "record count"

-- the bytes of a line in a column; fewer where the line has ended
abbrev pub stands_at : List ℕ → Column → List ℕ
stands_at line at = take at.width (drop (at.start - 1) line)

-- the line of a field: its name, its column, and its bytes between quotes; nothing where there is no field
abbrev pub spot_text : List ℕ → Option Spot → List ℕ
spot_text line None = []
spot_text line (Some spot) =
    codes "  "
    ++ name_text spot.name
    ++ codes ", start "
    ++ decimal spot.column.start
    ++ codes ", length "
    ++ decimal spot.column.width
    ++ codes ": \""
    ++ shown_text (stands_at line spot.column)
    ++ codes "\"\n"

-- a sum of shares, in hundredths of one per cent, as per cent with two places
abbrev pub percent_text : ℕ → List ℕ
percent_text hundredths = decimal (hundredths / 100) ++ codes "." ++ number_text 2 (hundredths % 100)

-- the records that may stand after a record of this type and what belongs to it
abbrev pub followers_text : List ℕ → List ℕ
followers_text leading =
    if bytes_eq leading (codes "SPU") then codes "SPT, SPU, OPU, SWR, OWR, ALT or XRF"
    else if bytes_eq leading (codes "SWR") then codes "SWT, PWR, SPU, OPU, SWR, OWR, ALT or XRF"
    else if bytes_eq leading (codes "OWR") then codes "PWR, SPU, OPU, SWR, OWR, ALT or XRF"
    else if bytes_eq leading (codes "ALT") then codes "ALT or XRF"
    else if bytes_eq leading (codes "XRF") then codes "ALT or XRF"
    else codes "SPU, OPU, SWR, OWR, ALT or XRF"

-- what the rule J with this number requires, where that depends on nothing else
abbrev pub rule_text : ℕ → List ℕ
rule_text number =
    if number == 2 then codes "a title that is not blank"
    else if number == 3 then codes "a number that is not blank"
    else if number == 4 then codes "T, nine digits and their check digit, or blanks"
    else if number == 5 then codes "a date as YYYYMMDD, a time as HHMMSS, or blanks"
    else if number == 6 then codes "five digits from 00000 to 10000, or blanks"
    else if number == 7 then codes "a number that is not blank"
    else if number == 9 then codes "the number of an SPU or OPU of the transaction, or blanks"
    else if number == 10 then codes "an SWR or OWR"
    else if number == 14 then codes "the indicator I or E, and a code of one to four digits"
    else codes "what the rule says"

-- the totals of the three rights, in per cent
abbrev pub collected_text : Totals → List ℕ
collected_text totals =
    codes "PR "
    ++ percent_text totals.performing
    ++ codes ", MR "
    ++ percent_text totals.mechanical
    ++ codes ", SR "
    ++ percent_text totals.synchronization

-- what J4 requires, with the check digit of the digits
abbrev pub digit_text : ℕ → List ℕ
digit_text digit = codes "T, these nine digits and their check digit " ++ decimal digit

-- what J8 requires: a party, between quotes
abbrev pub party_text : List ℕ → List ℕ
party_text party = codes "\"" ++ party ++ codes "\""

-- what J11 to J13 require, with the total that there is
abbrev pub ownership_text : ℕ → List ℕ
ownership_text total = codes "0, or from 99.94 to 100.06 per cent; the shares add up to " ++ percent_text total

-- what J15 requires, with a territory and its totals
abbrev pub collection_text : Over → List ℕ
collection_text over =
    codes "at most 100.06 per cent; in territory " ++ decimal over.territory ++ codes " the shares add up to " ++ collected_text over.totals

-- what J1 requires: the records that may follow after this one
abbrev pub after_text : List ℕ → List ℕ → List ℕ
after_text told followers = codes "after " ++ told ++ codes ": " ++ followers

-- what the rule J with this number required; `shows` says whether bytes of the file are escaped where they are not
-- printable
abbrev pub wanted_as : Bool → ℕ → Expected → List ℕ
wanted_as shows number Rule = rule_text number
wanted_as shows number (FollowerOf leading) = after_text (bytes_as_printed shows leading) (followers_text leading)
wanted_as shows number (CheckDigit digit) = digit_text digit
wanted_as shows number (Party party) = party_text (bytes_as_printed shows party)
wanted_as shows number (Ownership total) = ownership_text total
wanted_as shows number (Collection over) = collection_text over

-- what the rule required, with bytes of the file as they stand
abbrev pub wanted_text : ℕ → Expected → List ℕ
wanted_text number expected = wanted_as false number expected

-- the line with what the rule required
abbrev pub expected_text : ℕ → Expected → List ℕ
expected_text number expected = codes "  expected: " ++ wanted_as true number expected ++ codes "\n"

-- the place of the faulty record: its line, type and sequence
abbrev pub record_text : Finding → List ℕ
record_text f = codes "line " ++ decimal f.line ++ codes ": " ++ shown_text f.fault.rtype ++ codes " " ++ decimal f.fault.sequence

-- the transaction and the group of the faulty record
abbrev pub transaction_text : Finding → List ℕ
transaction_text f = codes " of transaction " ++ decimal f.transaction ++ codes " in group " ++ decimal f.group

-- the text of the rule with this number, as in a MSG record
abbrev pub message_of : ℕ → List ℕ
message_of number = if nat_le 1 number && nat_le number 15 then message_text number else []

-- the rule, and the end of the line
abbrev pub broken_text : ℕ → List ℕ
broken_text number = codes ": J" ++ decimal number ++ codes " " ++ message_of number ++ codes "\n"

-- the lines of the fields that break the rule
abbrev pub spots_text : List ℕ → List (Option Spot) → List ℕ
spots_text line spots = flat_map (spot_text line) spots

-- the report of a fault in this line
abbrev pub fault_report : List ℕ → Finding → List ℕ
fault_report line f =
    record_text f
    ++ transaction_text f
    ++ broken_text f.fault.number
    ++ spots_text line f.fields
    ++ expected_text f.fault.number f.expected

-- the report of a fault in a file with these lines
abbrev pub finding_text : List (List ℕ) → Finding → List ℕ
finding_text lines f = fault_report (line_at lines (f.line - 1)) f

-- the report of all faults of a file with these lines, and the last line
abbrev pub long_text : List (List ℕ) → List Finding → ℕ → ℕ → List ℕ
long_text lines findings all faulty = flat_map (finding_text lines) findings ++ total_line all faulty
