-- What is reported of the first fault of a file: where it stands, and what was expected there.
use Rattle.std.specs.Prelude.{ℕ, ◌+◌, ◌-◌, not, ◌||◌, ◌==◌, nat_lt, Bool, List, [], ◌∷◌, Option, Some, None, option_map, slice_index, if◌then◌else◌}
use Rattle.std.specs.List.{position}
use Rattle.std.specs.Str.Lines.{lines}
use Rattle.cwr_record.specs.Columns.{field_at, every_record_type}
use Rattle.cwr_record.specs.RecordTypes.{type_of}
use Rattle.cwr_grammar.specs.declared.file_counts.FileCounts.{FileCounts}
use Rattle.cwr_report.specs.declared.file_finding.FileFinding.{FileFinding}
use Rattle.cwr_report.specs.declared.file_finding.RecordPlace.{RecordPlace}
use Rattle.cwr_report.specs.declared.file_finding.RecordPlace.TheVariants.{End, AfterTrailer}
use Rattle.cwr_report.specs.declared.file_finding.WrongByte.{WrongByte}
use Rattle.cwr_report.specs.Before.{before_of, here, place_in}
use Rattle.cwr_report.specs.BytesBefore.{bytes_before}
use Rattle.cwr_report.specs.FileExpected.{file_expected, fields_of_file}
use Rattle.cwr_report.specs.Walks.{lines_before}

-- the record type of a line, three bytes; blanks where there is no line
abbrev pub type_at : Option (List ℕ) → List ℕ
type_at None = 32 ∷ 32 ∷ 32 ∷ []
type_at (Some line) = field_at line every_record_type

-- where a line with this fault stands, given the counts of the lines before it; a line has F11 after TRL only
abbrev pub place_of : ℕ → FileCounts → Option (List ℕ) → RecordPlace
place_of number b None = End
place_of number b (Some line) = if number == 11 then AfterTrailer else place_in b (type_of line)

-- the byte at an index of a line, with its positions from 1 in the line and in the file; `start` bytes stand before
-- the line
abbrev pub byte_at : ℕ → List ℕ → ℕ → WrongByte
byte_at start line index = record { byte = slice_index line index; in_line = index + 1; in_file = start + index + 1 }

-- the first byte of a line that passes; `None` where none does; `start` bytes stand before the line
abbrev pub first_byte : (ℕ → Bool) → ℕ → List ℕ → Option WrongByte
first_byte p start line = option_map (byte_at start line) (position p line)

-- F2: the first byte below 32; F11 after TRL: the first that is no blank and no byte 26
abbrev pub wrong_byte_in : ℕ → ℕ → List ℕ → Option WrongByte
wrong_byte_in number start line =
    if number == 2 then first_byte (λ b. nat_lt b 32) start line
    else if number == 11 then first_byte (λ b. not (b == 32 || b == 26)) start line
    else None

-- the wrong byte of the line that stands there, where the fault is one of bytes; lines count from 1
abbrev pub wrong_byte : List ℕ → ℕ → ℕ → Option (List ℕ) → Option WrongByte
wrong_byte bytes number line None = None
wrong_byte bytes number line (Some found) = wrong_byte_in number (bytes_before (line - 1) bytes) found

-- the finding for the fault with this number in this line, given the counts of the lines before it
abbrev pub finding_at_line : List ℕ → ℕ → ℕ → FileCounts → Option (List ℕ) → FileFinding
finding_at_line bytes number line b found = record {
  number = number;
  line = line;
  rtype = type_at found;
  place = place_of number b found;
  byte = wrong_byte bytes number line found;
  fields = fields_of_file found (file_expected number b found);
  expected = file_expected number b found;
}

-- the finding for the fault F with this number in this line of the file, from 1
abbrev pub file_finding : List ℕ → ℕ → ℕ → FileFinding
file_finding bytes number line =
    finding_at_line bytes number line (before_of (lines_before (lines bytes) (line - 1))) (here (lines bytes) (line - 1))
