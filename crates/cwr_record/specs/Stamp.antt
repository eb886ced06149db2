-- Who acknowledges, and when.
use Rattle.std.specs.Prelude.{ℕ, nat_le, ◌&&◌, List, length, Option, Some, None, if◌then◌else◌}
use Rattle.cwr_field.specs.Layout.{padded, is_printable}
use Rattle.cwr_record.specs.Columns.{header_name}

-- who acknowledges, and when: a society's number, its name filled with blanks, and a date and a time as the numbers
-- that their digits YYYYMMDD and HHMMSS spell
pub record StampParts : Type 0 where
  pub society : ℕ
  pub name : List ℕ
  pub date : ℕ
  pub time : ℕ

-- the stamp of a society of at most three digits with a name that fits its column of HDR and has no control byte, else
-- `None`
abbrev pub stamp_of : ℕ → List ℕ → ℕ → ℕ → Option StampParts
stamp_of society name date time =
    if nat_le society 999 && nat_le (length name) header_name.width && is_printable name
    then Some (record { society = society; name = padded header_name.width name; date = date; time = time })
    else None
