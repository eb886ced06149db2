-- The line that is written for a record, and what can be written.
use Rattle.std.specs.Prelude.{◌≡◌, ℕ, ◌≤◌, ◌<◌, ◌+◌, ◌^◌, ◌==◌, nat_le, Bool, true, ◌&&◌, ◌⊎◌, IsTrue, List, [], ◌∷◌, length, Option, Some, None}
use Rattle.std.specs.List.{flat_map}
use Rattle.cwr_field.specs.Layout.{padded}
use Rattle.cwr_field.specs.Number.{number_text}
use Rattle.cwr_field.specs.Share.{whole}
use Rattle.cwr_field.specs.Calendar.{is_day, is_time}
use Rattle.cwr_field.specs.Iswc.{iswc_text}
use Rattle.cwr_record.specs.Layout.{Value, Bytes, Number, Maybe, Part, Read, Kept, Written}
use Rattle.cwr_record.specs.declared.slot.Content.{Content}
use Rattle.cwr_record.specs.declared.slot.Content.TheVariants.{Kind, OneOf, Digits, Share, Day, Time, OptionalDay, OptionalTime, Code}

-- the bytes that are written for a value: a number in digits, a code, and blanks for none
abbrev pub spelling : Content → ℕ → Value → List ℕ
spelling content width (Bytes bytes) = padded width bytes
spelling content width (Number n) = number_text width n
spelling content width (Maybe None) = padded width []
spelling Code width (Maybe (Some n)) = iswc_text n
spelling content width (Maybe (Some n)) = number_text width n

-- the bytes that are written for one row of a table, as many as its column is wide
abbrev pub text_of : {X : Type 0} → X → Part X → List ℕ
text_of x (Read s part) = spelling s.content s.column.width (part x)
text_of x (Kept column part) = padded column.width (part x)
text_of x (Written column text) = padded column.width text

-- the line that is written for a record, without an end: the texts of all rows, one after another
abbrev pub line_of : {X : Type 0} → List (Part X) → X → List ℕ
line_of parts x = flat_map (text_of x) parts

-- each row begins where the one before it ends
abbrev pub are_adjacent : {X : Type 0} → ℕ → List (Part X) → Bool
are_adjacent start [] = true
are_adjacent start (Read s part ∷ parts) = (s.column.start == start) && are_adjacent (start + s.column.width) parts
are_adjacent start (Kept column part ∷ parts) = (column.start == start) && are_adjacent (start + column.width) parts
are_adjacent start (Written column text ∷ parts) = (column.start == start) && nat_le (length text) column.width && are_adjacent (start + column.width) parts

-- what a writer requires of a value: a number has no more digits than its field, a share is at most the whole, and a
-- code has nine digits
abbrev pub FitsField : Content → ℕ → Value → Type 0
FitsField Digits width (Number n) = n < 10 ^ width
FitsField Share width (Number n) = n ≤ whole
FitsField Code width (Maybe (Some n)) = n < 10 ^ 9
FitsField content width value = Unit {0}

-- the text of a work's code, or blanks where there is none
abbrev pub code_text : ℕ → Option ℕ → List ℕ
code_text width n = spelling Code width (Maybe n)

-- the code has nine digits, where there is one
abbrev pub FitsCode : Option ℕ → Type 0
FitsCode n = FitsField Code 11 (Maybe n)

-- each part of the record can be written
abbrev pub Fits : {X : Type 0} → List (Part X) → X → Type 0
Fits [] x = Unit {0}
Fits (Read s part ∷ parts) x = FitsField s.content s.column.width (part x) × Fits parts x
Fits (Kept column part ∷ parts) x = Fits parts x
Fits (Written column text ∷ parts) x = Fits parts x

-- the value is one that the field can hold
abbrev pub IsHeld : Content → ℕ → Value → Type 0
IsHeld (Kind code) width (Bytes bytes) = (bytes ≡ code) × (length code ≡ width)
IsHeld (OneOf first second) width (Bytes bytes) = ((bytes ≡ first) ⊎ (bytes ≡ second)) × (length bytes ≡ width)
IsHeld Digits width (Number n) = n < 10 ^ width
IsHeld Share width (Number n) = (n ≤ whole) × (width ≡ 5)
IsHeld Day width (Number n) = IsTrue (is_day n) × (width ≡ 8)
IsHeld Time width (Number n) = IsTrue (is_time n) × (width ≡ 6)
IsHeld OptionalDay width (Maybe None) = width ≡ 8
IsHeld OptionalDay width (Maybe (Some n)) = IsTrue (is_day n) × (width ≡ 8)
IsHeld OptionalTime width (Maybe None) = width ≡ 6
IsHeld OptionalTime width (Maybe (Some n)) = IsTrue (is_time n) × (width ≡ 6)
IsHeld Code width (Maybe None) = width ≡ 11
IsHeld Code width (Maybe (Some n)) = (n < 10 ^ 9) × (width ≡ 11)
IsHeld content width value = ⊥

-- The record has in each part what the field can hold. Of a record that a program made this says no more than Fits: its
-- texts have their widths, and its days and times are of the calendar, by their types.
abbrev pub IsWhole : {X : Type 0} → List (Part X) → X → Type 0
IsWhole [] x = Unit {0}
IsWhole (Read s part ∷ parts) x = IsHeld s.content s.column.width (part x) × IsWhole parts x
IsWhole (Kept column part ∷ parts) x = (length (part x) ≡ column.width) × IsWhole parts x
IsWhole (Written column text ∷ parts) x = IsWhole parts x
