-- The rows of tables, as CSV lines.
use Rattle.std.specs.Prelude.{◌≡◌, ℕ, List, [], Option, Some, None, false}
use Rattle.std.specs.Fmt.{decimal}
use Rattle.csv.specs.Writing.{default_writer, fields_written, has_written, row_text, writer_setup}
use Rattle.csv.specs.declared.writer.Writer.{Writer}
use Rattle.cwr_field.specs.Iswc.{iswc_text}

-- A row as its CSV line: its fields between commas and an LF at the end. A field that holds a comma, a quote, CR or LF
-- stands between quotes, with each of its quotes twice; any other field stands as it is.
abbrev pub csv_line : List (List ℕ) → List ℕ
csv_line fields = row_text default_writer fields

-- a number without leading zeros; an empty field for `None`
abbrev pub number_field : Option ℕ → List ℕ
number_field None = []
number_field (Some n) = decimal n

-- the eleven bytes of an ISWC; an empty field for `None`
abbrev pub iswc_field : Option ℕ → List ℕ
iswc_field None = []
iswc_field (Some n) = iswc_text n

-- a row may begin, in the form of `csv_line`
pub record IsAtRow {W : Type 0} (w : Writer W) : Type 0 where
  pub fields : fields_written w ≡ 0
  pub clean : has_written w ≡ false
  pub form : writer_setup w ≡ default_writer
