-- What is written field by field.
use Rattle.std.specs.Prelude.{ℕ, ◌<◌, ◌≤◌, ◌^◌, List, [], length, Some, None, IsTrue}
use Rattle.cwr_field.specs.Layout.{padded}
use Rattle.cwr_field.specs.Number.{number_text}
use Rattle.cwr_field.specs.Share.{whole}
use Rattle.cwr_field.specs.Calendar.{is_day, is_time}
use Rattle.cwr_field.specs.Iswc.{iswc_text}
use Rattle.cwr_record.specs.declared.field_values.FieldValue.{FieldValue}
use Rattle.cwr_record.specs.declared.field_values.FieldValue.TheVariants.{Text, Digits, Share, Day, Time, OptionalDay, OptionalTime, Code}

-- the bytes that are written for a field: digits with leading zeros, and texts and absent values filled with blanks
abbrev pub field_value_text : FieldValue → List ℕ
field_value_text (Text text column) = padded column.width text.now
field_value_text (Digits value column) = number_text column.width value
field_value_text (Share value) = number_text 5 value
field_value_text (Day day) = number_text 8 day
field_value_text (Time time) = number_text 6 time
field_value_text (OptionalDay None) = padded 8 []
field_value_text (OptionalDay (Some day)) = number_text 8 day
field_value_text (OptionalTime None) = padded 6 []
field_value_text (OptionalTime (Some time)) = number_text 6 time
field_value_text (Code None) = padded 11 []
field_value_text (Code (Some n)) = iswc_text n

-- the number of bytes that the field takes
abbrev pub field_value_width : FieldValue → ℕ
field_value_width (Text text column) = column.width
field_value_width (Digits value column) = column.width
field_value_width (Share value) = 5
field_value_width (Day day) = 8
field_value_width (Time time) = 6
field_value_width (OptionalDay day) = 8
field_value_width (OptionalTime time) = 6
field_value_width (Code n) = 11

-- the value fits its field: a text is not longer than the column, a number has no more digits, a share is at most the
-- whole, and an ISWC has nine digits
abbrev pub FitsField : FieldValue → Type 0
FitsField (Text text column) = length text.now ≤ column.width
FitsField (Digits value column) = (value < 10 ^ column.width) × (column.width ≤ 18)
FitsField (Share value) = value ≤ whole
FitsField (Code (Some n)) = n < 10 ^ 9
FitsField field_value = Unit {0}

-- a date or a time that is written is one of the calendar
abbrev pub IsDated : FieldValue → Type 0
IsDated (Day day) = IsTrue (is_day day)
IsDated (Time time) = IsTrue (is_time time)
IsDated (OptionalDay (Some day)) = IsTrue (is_day day)
IsDated (OptionalTime (Some time)) = IsTrue (is_time time)
IsDated field_value = Unit {0}
