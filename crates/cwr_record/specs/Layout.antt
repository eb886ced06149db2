-- A record's layout is a table of the fields of its line (CWR 2.2, record layouts).
use Rattle.std.specs.Prelude.{◌≡◌, ℕ, Bool, ◌||◌, List, [], ◌∷◌, Option, Some, None, option_map, if◌then◌else◌}
use Rattle.std.specs.Str.{bytes_eq}
use Rattle.cwr_field.specs.Layout.{is_blank}
use Rattle.cwr_field.specs.Number.{number_of}
use Rattle.cwr_field.specs.Share.{share_of}
use Rattle.cwr_field.specs.Calendar.{day_of, time_of}
use Rattle.cwr_field.specs.Iswc.{iswc_of}
use Rattle.cwr_field.specs.declared.codes.Iswc.{Iswc}
use Rattle.cwr_field.specs.declared.codes.Iswc.TheVariants.{Blank, Valid, Wrong}
use Rattle.cwr_record.specs.Columns.{field_at}
use Rattle.cwr_record.specs.declared.columns.Column.{Column}
use Rattle.cwr_record.specs.declared.slot.Slot.{Slot}
use Rattle.cwr_record.specs.declared.slot.Content.{Content}
use Rattle.cwr_record.specs.declared.slot.Content.TheVariants.{Kind, OneOf, Digits, Share, Day, Time, OptionalDay, OptionalTime, Code}

-- what a field is read as: bytes as they stand, a number, or a number that may be absent
pub data Value : Type 0 where
  Bytes : List ℕ → Value
  Number : ℕ → Value
  Maybe : Option ℕ → Value

-- a value that may be absent and is there; `None` where there is no number
abbrev pub present : Option ℕ → Option Value
present n = option_map (λ m. Maybe (Some m)) n

-- the ISWC as a value, absent where the field is blank; `None` where it is wrong
abbrev pub code_value : Iswc → Option Value
code_value Blank = Some (Maybe None)
code_value (Valid n) = Some (Maybe (Some n))
code_value Wrong = None

-- eight zeros, which stand for no date
abbrev pub zeros : List ℕ
zeros = 48 ∷ 48 ∷ 48 ∷ 48 ∷ 48 ∷ 48 ∷ 48 ∷ 48 ∷ []

-- the date field has no date: its bytes are all blanks, or eight zeros
abbrev pub is_no_day : List ℕ → Bool
is_no_day bytes = is_blank bytes || bytes_eq bytes zeros

-- the value that the bytes of a field stand for, by what the field holds; `None` where they stand for none
abbrev pub value_of : Content → List ℕ → Option Value
value_of (Kind code) bytes = if bytes_eq bytes code then Some (Bytes code) else None
value_of (OneOf first second) bytes = if bytes_eq bytes first || bytes_eq bytes second then Some (Bytes bytes) else None
value_of Digits bytes = option_map Number (number_of bytes)
value_of Share bytes = option_map Number (share_of bytes)
value_of Day bytes = option_map Number (day_of bytes)
value_of Time bytes = option_map Number (time_of bytes)
value_of OptionalDay bytes = if is_no_day bytes then Some (Maybe None) else present (day_of bytes)
value_of OptionalTime bytes = if is_blank bytes then Some (Maybe None) else present (time_of bytes)
value_of Code bytes = code_value (iswc_of bytes)

-- the value of a field in a line; `None` where its bytes stand for none
abbrev pub reading : List ℕ → Slot → Option Value
reading line s = value_of s.content (field_at line s.column)

-- a row of a table, of records of a type: a field that is read, and the part of the record that it stands for;
-- a text that is kept as it stands; or a text that is written and never read
pub data Part (X : Type 0) : Type 0 where
  Read : Slot → (X → Value) → Part X
  Kept : Column → (X → List ℕ) → Part X
  Written : Column → List ℕ → Part X

-- the line stands for the record: each field that is read or kept is that part of it
abbrev pub StandsFor : {X : Type 0} → List (Part X) → List ℕ → X → Type 0
StandsFor [] line x = Unit {0}
StandsFor (Read s part ∷ parts) line x = (reading line s ≡ Some (part x)) × StandsFor parts line x
StandsFor (Kept column part ∷ parts) line x = (part x ≡ field_at line column) × StandsFor parts line x
StandsFor (Written column text ∷ parts) line x = StandsFor parts line x
