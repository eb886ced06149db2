-- The rules of a transaction as a whole, which its header's line and its records decide.
use Rattle.std.specs.Prelude.{ℕ, Bool, true, false, not, ◌&&◌, ◌||◌, ◌==◌, nat_le, List, Option, Some, None, is_some}
use Rattle.std.specs.List.{list_any}
use Rattle.cwr_field.specs.Layout.{is_blank}
use Rattle.cwr_field.specs.Share.{min_whole, max_whole}
use Rattle.cwr_field.specs.Calendar.{day_of, time_of}
use Rattle.cwr_field.specs.Iswc.{iswc_of}
use Rattle.cwr_field.specs.declared.codes.Iswc.{Iswc}
use Rattle.cwr_field.specs.declared.codes.Iswc.TheVariants.{Blank, Valid, Wrong}
use Rattle.cwr_record.specs.Columns as column
use Rattle.cwr_record.specs.Columns.{field_at}
use Rattle.cwr_record.specs.Layout.{is_no_day}
use Rattle.cwr_rules.specs.declared.record.Record.{Record}
use Rattle.cwr_rules.specs.Rules.{is_writer}

-- the nine digits of a valid ISWC as a number; `None` where it is blank or wrong
abbrev pub number_in : Iswc → Option ℕ
number_in Blank = None
number_in (Valid n) = Some n
number_in Wrong = None

-- the ISWC is neither blank nor valid
abbrev pub is_wrong_code : Iswc → Bool
is_wrong_code Blank = false
is_wrong_code (Valid n) = false
is_wrong_code Wrong = true

-- J2: the title is blank
abbrev pub has_no_title : List ℕ → Bool
has_no_title head = is_blank (field_at head column.work_head_title)

-- J3: the submitter work number is blank
abbrev pub has_no_number : List ℕ → Bool
has_no_number head = is_blank (field_at head column.work_head_submitter_number)

-- J4: the ISWC is neither blank nor valid
abbrev pub has_wrong_iswc : List ℕ → Bool
has_wrong_iswc head = is_wrong_code (iswc_of (field_at head column.work_head_iswc))

-- the copyright date is blank, eight zeros, or a day
abbrev pub is_copyright_date : List ℕ → Bool
is_copyright_date text = is_no_day text || is_some (day_of text)

-- the duration is blank, or a time HHMMSS
abbrev pub is_duration : List ℕ → Bool
is_duration text = is_blank text || is_some (time_of text)

-- J5: the copyright date or the duration is not valid
abbrev pub has_wrong_date : List ℕ → Bool
has_wrong_date head =
    not (is_copyright_date (field_at head column.work_head_copyright_date) && is_duration (field_at head column.work_head_duration))

-- J10: there is neither an SWR nor an OWR
abbrev pub has_no_writer : List Record → Bool
has_no_writer records = not (list_any is_writer records)

-- J11, J12, J13: the ownership total of a right is neither 0 nor between 99.94 and 100.06 per cent
abbrev pub is_off : ℕ → Bool
is_off total = not (total == 0) && not (nat_le min_whole total && nat_le total max_whole)
