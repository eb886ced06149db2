-- The rows of which the tables of layouts are made.
use Rattle.std.specs.Prelude.{ℕ, List, [], Option}
use Rattle.cwr_record.specs.Columns.{every_record_type}
use Rattle.cwr_record.specs.Layout.{Part, Read, Kept, Written, Bytes, Number, Maybe, Value}
use Rattle.cwr_record.specs.declared.columns.Column.{Column}
use Rattle.cwr_record.specs.declared.slot.Content.{Content}
use Rattle.cwr_record.specs.declared.slot.Content.TheVariants.{Kind, OneOf, Digits, Share, Day, Time, OptionalDay, OptionalTime, Code}

-- a field that is read: its column, what it holds, and the part of the record that it stands for
abbrev pub at : {X : Type 0} → Column → Content → (X → Value) → Part X
at column content part = Read (record { column = column; content = content }) part

-- a name that is always the same
abbrev pub named : {X : Type 0} → Column → List ℕ → Part X
named column code = at column (Kind code) (λ x. Bytes code)

-- the record type, which begins each line
abbrev pub kind : {X : Type 0} → List ℕ → Part X
kind code = named every_record_type code

-- one of two record types
abbrev pub one_of : {X : Type 0} → List ℕ → List ℕ → (X → List ℕ) → Part X
one_of first second part = at every_record_type (OneOf first second) (λ x. Bytes (part x))

-- digits that fill the field
abbrev pub number : {X : Type 0} → Column → (X → ℕ) → Part X
number column part = at column Digits (λ x. Number (part x))

-- five digits up to 10000, in hundredths of one per cent; blanks are 0
abbrev pub share : {X : Type 0} → Column → (X → ℕ) → Part X
share column part = at column Share (λ x. Number (part x))

-- YYYYMMDD
abbrev pub day : {X : Type 0} → Column → (X → ℕ) → Part X
day column part = at column Day (λ x. Number (part x))

-- HHMMSS
abbrev pub time : {X : Type 0} → Column → (X → ℕ) → Part X
time column part = at column Time (λ x. Number (part x))

-- YYYYMMDD, or none: blanks or zeros, written as blanks
abbrev pub optional_day : {X : Type 0} → Column → (X → Option ℕ) → Part X
optional_day column part = at column OptionalDay (λ x. Maybe (part x))

-- HHMMSS, or none: blanks
abbrev pub optional_time : {X : Type 0} → Column → (X → Option ℕ) → Part X
optional_time column part = at column OptionalTime (λ x. Maybe (part x))

-- an International Standard Musical Work Code, or none: blanks
abbrev pub code : {X : Type 0} → Column → (X → Option ℕ) → Part X
code column part = at column Code (λ x. Maybe (part x))

-- bytes that are kept as they stand, blanks included
abbrev pub text : {X : Type 0} → Column → (X → List ℕ) → Part X
text column part = Kept column part

-- a text that is written, and never read
abbrev pub constant : {X : Type 0} → Column → List ℕ → Part X
constant column bytes = Written column bytes

-- blanks that are written, and never read
abbrev pub blanks : {X : Type 0} → Column → Part X
blanks column = Written column []
