-- What a report prints of the first fault of a file: lines for a person, each with LF at its end.
use Rattle.std.specs.Prelude.{ℕ, ◌-◌, ◌==◌, List, [], ◌++◌, Option, Some, None, codes, if◌then◌else◌}
use Rattle.std.specs.Fmt.{decimal}
use Rattle.cwr_record.specs.Kinds.{work_kind_code}
use Rattle.cwr_record.specs.declared.works.WorkKind.{WorkKind}
use Rattle.cwr_grammar.specs.FaultText.{refused_text}
use Rattle.cwr_report.specs.declared.file_finding.FileFinding.{FileFinding}
use Rattle.cwr_report.specs.declared.file_finding.RecordPlace.{RecordPlace}
use Rattle.cwr_report.specs.declared.file_finding.RecordPlace.TheVariants as place
use Rattle.cwr_report.specs.declared.file_finding.WrongByte.{WrongByte}
use Rattle.cwr_report.specs.declared.file_finding.FileExpected.{FileExpected}
use Rattle.cwr_report.specs.declared.file_finding.FileExpected.TheVariants as wants
use Rattle.report_texts.specs.LongText.{spots_text}
use Rattle.report_texts.specs.Shown.{shown_text}
use Rattle.cwr_report.specs.Walks.{line_at}

-- what a fault of the rule F with this number is called
abbrev pub file_rule_text : ℕ → List ℕ
file_rule_text number =
    if number == 1 then codes "the file does not begin with HDR"
    else if number == 2 then codes "a control character in a line"
    else if number == 3 then codes "no record type, or a wrong date or time in HDR"
    else if number == 4 then codes "a record in the wrong place"
    else if number == 5 then codes "a group that is not of NWR or REV"
    else if number == 6 then codes "a header of another type than its group"
    else if number == 7 then codes "group IDs do not run 00001, 00002, .."
    else if number == 8 then codes "transaction or record sequences do not run"
    else if number == 9 then codes "the counts of GRT are not those of the group"
    else if number == 10 then codes "the counts of TRL are not those of the file"
    else if number == 11 then codes "no TRL at the end, or something after it"
    else codes "a line of more than 4,096 bytes"

-- words followed by a number
abbrev pub counted : List ℕ → ℕ → List ℕ
counted words number = words ++ decimal number

-- a record of a transaction, by its type, its sequence, its transaction and its group
abbrev pub detail_text : List ℕ → ℕ → ℕ → ℕ → List ℕ
detail_text rtype group transaction detail =
    shown_text rtype
    ++ counted (codes " ") detail
    ++ counted (codes " of transaction ") transaction
    ++ counted (codes " in group ") group

-- the faulty record, or where it stands
abbrev pub place_text : List ℕ → RecordPlace → List ℕ
place_text rtype place.End = codes "end of the file"
place_text rtype place.AfterTrailer = codes "after TRL"
place_text rtype place.Nameless = codes "no record type"
place_text rtype place.File = shown_text rtype
place_text rtype (place.Group group) = shown_text rtype ++ counted (codes " of group ") group
place_text rtype (place.Transaction group transaction detail) = detail_text rtype group transaction detail

-- the line of the wrong byte, where there is one
abbrev pub byte_text : Option WrongByte → List ℕ
byte_text None = []
byte_text (Some wrong) =
    codes "  byte "
    ++ decimal wrong.byte
    ++ codes ", position "
    ++ decimal wrong.in_line
    ++ codes " of the line, "
    ++ decimal wrong.in_file
    ++ codes " of the file\n"

-- the transaction type of a group; NWR or REV where it is not known
abbrev pub kind_text : Option WorkKind → List ℕ
kind_text None = codes "NWR or REV"
kind_text (Some kind) = work_kind_code kind

-- the transaction and the record sequence that were expected
abbrev pub sequences_text : ℕ → ℕ → List ℕ
sequences_text transaction detail =
    counted (codes "transaction sequence ") transaction ++ counted (codes ", record sequence ") detail

-- the transaction count and the record count that were expected
abbrev pub counts_text : ℕ → ℕ → List ℕ
counts_text transactions records =
    counted (codes "transaction count ") transactions ++ counted (codes ", record count ") records

-- the three counts of a TRL that were expected
abbrev pub file_counts_text : ℕ → ℕ → ℕ → List ℕ
file_counts_text groups transactions records =
    counted (codes "group count ") groups ++ codes ", " ++ counts_text transactions records

-- what was expected, in words
abbrev pub file_wanted_text : FileExpected → List ℕ
file_wanted_text wants.Header = codes "HDR"
file_wanted_text wants.NoControl = codes "no byte below 32"
file_wanted_text wants.RecordType = codes "a record type, three capitals from A to Z"
file_wanted_text wants.Dates = codes "a date as YYYYMMDD, a time as HHMMSS"
file_wanted_text wants.OutsideGroups = codes "GRH or TRL"
file_wanted_text (wants.InGroup kind) = kind_text kind ++ codes " or GRT"
file_wanted_text (wants.InTransaction kind) = codes "a detail, " ++ kind_text kind ++ codes " or GRT"
file_wanted_text wants.Kinds = codes "NWR or REV"
file_wanted_text (wants.Kind kind) = kind_text kind
file_wanted_text (wants.Group group) = counted (codes "group ID ") group
file_wanted_text (wants.Sequences transaction detail) = sequences_text transaction detail
file_wanted_text (wants.GroupCounts transactions records) = counts_text transactions records
file_wanted_text (wants.FileCounts groups transactions records) = file_counts_text groups transactions records
file_wanted_text wants.Trailer = codes "TRL"
file_wanted_text wants.Tail = codes "blanks and bytes 26 alone"
file_wanted_text (wants.Length size) = counted (codes "at most 4096 bytes; the line has ") size

-- the line with the place of the fault and its rule
abbrev pub file_place_text : FileFinding → List ℕ
file_place_text f =
    codes "line "
    ++ decimal f.line
    ++ codes ": "
    ++ place_text f.rtype f.place
    ++ codes ": F"
    ++ decimal f.number
    ++ codes " "
    ++ file_rule_text f.number
    ++ codes "\n"

-- the line with what was expected
abbrev pub file_expected_text : FileExpected → List ℕ
file_expected_text expected = codes "  expected: " ++ file_wanted_text expected ++ codes "\n"

-- the last line, which is all that a plain check prints of the fault
abbrev pub refused_line : FileFinding → List ℕ
refused_line f = refused_text f.number f.line ++ codes "\n"

-- the report of a fault in a line with these bytes
abbrev pub file_fault_report : List ℕ → FileFinding → List ℕ
file_fault_report line f =
    file_place_text f
    ++ byte_text f.byte
    ++ spots_text line f.fields
    ++ file_expected_text f.expected
    ++ refused_line f

-- the report of a fault in a file with these lines
abbrev pub file_text : List (List ℕ) → FileFinding → List ℕ
file_text text f = file_fault_report (line_at text (f.line - 1)) f
