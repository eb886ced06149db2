-- The line that stands for a record, where each value has one spelling: it is the line that is written for that record.
use Rattle.std.proofs.Common.{◌≡◌, ◌∙◌, ℕ, ◌+◌, ◌-◌, ◌≤◌, Bool, true, false, List, [], ◌∷◌, ◌++◌, length, take, drop, replicate, Option, Some, None, arith, ap, sym, subst, refl}
use Rattle.std.specs.Prelude.{◌&&◌, ◌==◌, option_map, if◌then◌else◌}
use Rattle.std.specs.Str.{bytes_eq}
use Rattle.std.proofs.lemmas.Bool.Decides.{nat_tests}
use Rattle.std.proofs.lemmas.Slice.Eq.{bytes_eq-Decides}
use Rattle.std.proofs.lemmas.List.{drop-drop, take-append-le, length-append, length-drop}
use Rattle.std.proofs.Math.Seq.{take-add}
use Rattle.cwr_field.specs.Layout.{field, padded}
use Rattle.cwr_field.specs.Number.{number_of}
use Rattle.cwr_field.specs.Iswc.{iswc_of}
use Rattle.cwr_field.specs.declared.codes.Iswc.{Iswc}
use Rattle.cwr_field.specs.declared.codes.Iswc.TheVariants.{Blank, Valid, Wrong}
use Rattle.cwr_field.proofs.lemmas.Spelling.{length-field, number_spells, code_some, code_blank}
use Rattle.cwr_field.proofs.lemmas.Tests.{parts as both_of}
use Rattle.cwr_record.specs.declared.columns.Column.{Column}
use Rattle.cwr_record.specs.declared.slot.Content.{Content}
use Rattle.cwr_record.specs.declared.slot.Content.TheVariants.{Kind, OneOf, Digits, Share, Day, Time, OptionalDay, OptionalTime, Code}
use Rattle.cwr_record.specs.Columns.{field_at}
use Rattle.cwr_record.specs.Layout.{Value, Bytes, Number, Maybe, value_of, reading, code_value, Part, Read, Kept, Written, StandsFor}
use Rattle.cwr_record.specs.Lines.{spelling, line_of, are_adjacent, FitsCode, IsHeld, IsWhole}
use Rattle.cwr_record.proofs.lemmas.RoundTrip.{padded_full, length-spelling}

-- a value of such a field has one spelling
abbrev pub is_strict : Content → ℕ → Bool
is_strict (Kind code) width = true
is_strict Digits width = true
is_strict Code width = width == 11
is_strict _ width = false

-- each field of the table has, and is read or kept
abbrev pub are_strict : {X : Type 0} → List (Part X) → Bool
are_strict [] = true
are_strict (Read s part ∷ parts) = is_strict s.content s.column.width && are_strict parts
are_strict (Kept column part ∷ parts) = are_strict parts
are_strict (Written column text ∷ parts) = false

abbrev pub column_of : {X : Type 0} → Part X → Column
column_of (Read s part) = s.column
column_of (Kept column part) = column
column_of (Written column text) = column

abbrev pub width_of : {X : Type 0} → List (Part X) → ℕ
width_of [] = 0
width_of (part ∷ parts) = (column_of part).width + width_of parts

number_spelled : (bytes : List ℕ) (width : ℕ) (o : Option ℕ) (v : Value) → length bytes ≡ width → number_of bytes ≡ o → option_map Number o ≡ Some v → spelling Digits width v ≡ bytes
number_spelled bytes width None v len is e = absurd cc
number_spelled bytes width (Some n) v len is e =
    let same : Number n ≡ v = cc in
    ap (spelling Digits width) (sym same) ∙ number_spells bytes width n len is

code_spelled : (bytes : List ℕ) (o : Iswc) (v : Value) → length bytes ≡ 11 → iswc_of bytes ≡ o → code_value o ≡ Some v → spelling Code 11 v ≡ bytes
code_spelled bytes Blank v len is e =
    let same : Maybe None ≡ v = cc in
    ap (spelling Code 11) (sym same) ∙ sym (code_blank bytes len is)
code_spelled bytes (Valid n) v len is e =
    let same : Maybe (Some n) ≡ v = cc in
    ap (spelling Code 11) (sym same) ∙ code_some bytes n len is
code_spelled bytes Wrong v len is e = absurd cc

kind_spelled : (bytes code : List ℕ) (width : ℕ) (b : Bool) (v : Value) → length bytes ≡ width → bytes_eq bytes code ≡ b → (if b then Some (Bytes code) else None) ≡ Some v
    → spelling (Kind code) width v ≡ bytes
kind_spelled bytes code width true v len is e =
    let same : Bytes code ≡ v = cc in
    let named : bytes ≡ code = (bytes_eq-Decides bytes code).0 is in
    ap (spelling (Kind code) width) (sym same) ∙ ap (λ (text : List ℕ). padded width text) (sym named) ∙ padded_full width bytes len
kind_spelled bytes code width false v len is e = absurd cc

-- a code that fits can be held
pub code_held : (n : Option ℕ) → FitsCode n → IsHeld Code 11 (Maybe n)
code_held None h = refl
code_held (Some n) h = (h, refl)

-- what is written for the value of a field is what the field holds
spelled_field : (content : Content) (width : ℕ) (bytes : List ℕ) (v : Value) → is_strict content width ≡ true → length bytes ≡ width → value_of content bytes ≡ Some v
    → spelling content width v ≡ bytes
spelled_field (Kind code) width bytes v strict len e = kind_spelled bytes code width (bytes_eq bytes code) v len refl e
spelled_field Digits width bytes v strict len e = number_spelled bytes width (number_of bytes) v len refl e
spelled_field Code width bytes v strict len e =
    let eleven : width ≡ 11 = grind (arith, nat_tests) in
    let P : ℕ → Type 0 = λ w. spelling Code w v ≡ bytes in
    subst P (sym eleven) (code_spelled bytes (iswc_of bytes) v (len ∙ eleven) refl e)
spelled_field (OneOf first second) width bytes v strict len e = absurd cc
spelled_field Share width bytes v strict len e = absurd cc
spelled_field Day width bytes v strict len e = absurd cc
spelled_field Time width bytes v strict len e = absurd cc
spelled_field OptionalDay width bytes v strict len e = absurd cc
spelled_field OptionalTime width bytes v strict len e = absurd cc

-- a field that lies in the line
field_within : (line : List ℕ) (start width : ℕ) → start - 1 + width ≤ length line → field line start width ≡ take width (drop (start - 1) line)
field_within line start width le =
    take-append-le width (drop (start - 1) line) (replicate width 32) (omega (arith, le, length-drop (start - 1) line))

-- a text that fills its field, and what follows it
joined : (line text rest : List ℕ) (at start width more : ℕ) → 1 ≤ start → at ≡ start → start - 1 + (width + more) ≤ length line → text ≡ field line at width
    → rest ≡ take more (drop (start + width - 1) line) → text ++ rest ≡ take (width + more) (drop (start - 1) line)
joined line text rest at start width more one here le first follows =
    let next : start + width - 1 ≡ start - 1 + width = omega (arith, one) in
    let found : text ≡ take width (drop (start - 1) line) = first ∙ ap (λ (s : ℕ). field line s width) here ∙ field_within line start width (omega (arith, le)) in
    let after : drop (start + width - 1) line ≡ drop width (drop (start - 1) line) = ap (λ (n : ℕ). drop n line) next ∙ sym (drop-drop width (start - 1) line) in
    ap (λ (xs : List ℕ). xs ++ rest) found
    ∙ ap (λ (xs : List ℕ). take width (drop (start - 1) line) ++ xs) (follows ∙ ap (λ (xs : List ℕ). take more xs) after)
    ∙ sym (take-add width more (drop (start - 1) line))

is_at : (a b : ℕ) → (a == b) ≡ true → a ≡ b
is_at a b e = grind (arith, nat_tests)

-- the line, as far as the fields go, is the record's
pub spelled : {X : Type 0} (parts : List (Part X)) (line : List ℕ) (x : X) (start : ℕ) → 1 ≤ start → are_strict parts ≡ true → are_adjacent start parts ≡ true
    → start - 1 + width_of parts ≤ length line → StandsFor parts line x → line_of parts x ≡ take (width_of parts) (drop (start - 1) line)
spelled [] line x start one strict adjacent le stands = refl
spelled (Read s part ∷ parts) line x start one strict adjacent le stands =
    let p = both_of (is_strict s.content s.column.width) (are_strict parts) strict in
    let a = both_of (s.column.start == start) (are_adjacent (start + s.column.width) parts) adjacent in
    let first = spelled_field s.content s.column.width (field_at line s.column) (part x) p.0 (length-field line s.column.start s.column.width) stands.0 in
    let at : start + s.column.width - 1 ≡ start - 1 + s.column.width = omega (arith, one) in
    let more = spelled parts line x (start + s.column.width) (omega (arith, one)) p.1 a.1 (omega (arith, at, le)) stands.1 in
    joined line (spelling s.content s.column.width (part x)) (line_of parts x) s.column.start start s.column.width (width_of parts) one (is_at s.column.start start a.0) le first more
spelled (Kept column part ∷ parts) line x start one strict adjacent le stands =
    let a = both_of (column.start == start) (are_adjacent (start + column.width) parts) adjacent in
    let full = padded_full column.width (part x) (ap length stands.0 ∙ length-field line column.start column.width) in
    let at : start + column.width - 1 ≡ start - 1 + column.width = omega (arith, one) in
    let more = spelled parts line x (start + column.width) (omega (arith, one)) strict a.1 (omega (arith, at, le)) stands.1 in
    joined line (padded column.width (part x)) (line_of parts x) column.start start column.width (width_of parts) one (is_at column.start start a.0) le (full ∙ stands.0) more
spelled (Written column text ∷ parts) line x start one strict adjacent le stands = absurd cc

-- the line of a record has the width of its table
pub length-line_of : {X : Type 0} (parts : List (Part X)) (x : X) → are_strict parts ≡ true → IsWhole parts x → length (line_of parts x) ≡ width_of parts
length-line_of [] x strict whole = refl
length-line_of (Read s part ∷ parts) x strict whole =
    let p = both_of (is_strict s.content s.column.width) (are_strict parts) strict in
    let first = length-spelling s.content s.column.width (part x) whole.0 in
    let more = length-line_of parts x p.1 whole.1 in
    omega (arith, first, more, length-append (spelling s.content s.column.width (part x)) (line_of parts x))
length-line_of (Kept column part ∷ parts) x strict whole =
    let first : length (padded column.width (part x)) ≡ column.width = ap length (padded_full column.width (part x) whole.0) ∙ whole.0 in
    let more = length-line_of parts x strict whole.1 in
    omega (arith, first, more, length-append (padded column.width (part x)) (line_of parts x))
length-line_of (Written column text ∷ parts) x strict whole = absurd cc

-- what two records have in common for which one line stands
abbrev pub SameParts : {X : Type 0} → List (Part X) → X → X → Type 0
SameParts [] x y = Unit {0}
SameParts (Read s part ∷ parts) x y = (part x ≡ part y) × SameParts parts x y
SameParts (Kept column part ∷ parts) x y = (part x ≡ part y) × SameParts parts x y
SameParts (Written column text ∷ parts) x y = SameParts parts x y

one_value : (o : Option Value) (v w : Value) → o ≡ Some v → o ≡ Some w → v ≡ w
one_value o v w p q = cc

pub same_parts : {X : Type 0} (parts : List (Part X)) (line : List ℕ) (x y : X) → StandsFor parts line x → StandsFor parts line y → SameParts parts x y
same_parts [] line x y p q = tt
same_parts (Read s part ∷ parts) line x y p q = (one_value (reading line s) (part x) (part y) p.0 q.0, same_parts parts line x y p.1 q.1)
same_parts (Kept column part ∷ parts) line x y p q = (p.0 ∙ sym q.0, same_parts parts line x y p.1 q.1)
same_parts (Written column text ∷ parts) line x y p q = same_parts parts line x y p q

pub same_number : (a b : ℕ) → Number a ≡ Number b → a ≡ b
same_number a b e = cc

pub same_maybe : (a b : Option ℕ) → Maybe a ≡ Maybe b → a ≡ b
same_maybe a b e = cc
