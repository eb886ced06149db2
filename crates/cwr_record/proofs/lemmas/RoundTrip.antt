-- A line that was written for a record is read as that record.
use Rattle.std.proofs.Common.{◌≡◌, ℕ, ◌+◌, ◌-◌, ◌<◌, ◌≤◌, ◌^◌, leb, true, false, ◌||◌, List, [], ◌∷◌, ◌++◌, length, replicate, Option, Some, None, arith, refl, sym, ap, ◌∙◌, append_assoc, is_some, ◌⊎◌, inl, inr}
use Rattle.std.proofs.lemmas.List.{take_at, drop_at, length-append, length-replicate, append-nil}
use Rattle.std.proofs.lemmas.Bool.Decides.{nat_tests}
use Rattle.std.proofs.Math.Bool.{or-true}
use Rattle.std.specs.Str.{bytes_eq}
use Rattle.std.proofs.lemmas.Slice.Eq.{bytes_eq-Decides}
use Rattle.cwr_field.specs.Layout.{field, padded, is_blank}
use Rattle.cwr_field.specs.Number.{number_text}
use Rattle.cwr_field.specs.Share.{whole}
use Rattle.cwr_field.specs.Calendar.{is_day, is_time}
use Rattle.cwr_field.proofs.lemmas.DigitText.{length-number_text, number_of-number_text}
use Rattle.cwr_field.proofs.lemmas.CodeText.{iswc_of-iswc_text}
use Rattle.cwr_record.specs.declared.slot.FieldFault.{FieldFault}
use Rattle.cwr_record.specs.declared.slot.Content.{Content}
use Rattle.cwr_record.specs.declared.slot.Content.TheVariants.{Kind, OneOf, Digits, Share, Day, Time, OptionalDay, OptionalTime, Code}
use Rattle.cwr_record.specs.Layout.{Value, Bytes, Number, Maybe, value_of, reading, is_no_day, Part, Read, Kept, Written, StandsFor}
use Rattle.cwr_record.specs.Lines.{spelling, line_of, are_adjacent, IsHeld, IsWhole}
use Rattle.cwr_record.specs.Faults.{faults, checked, IsLeastFault}

-- a text between others is found by its place
field_at : (front text rest : List ℕ) (start n : ℕ) → start ≡ length front + 1 → n ≡ length text → field (front ++ (text ++ rest)) start n ≡ text
field_at front text rest start n s l =
    let e : start - 1 ≡ length front = omega arith in
    rw (e, drop_at front (text ++ rest) (length front) refl, append_assoc text rest (replicate n 32), take_at text (rest ++ replicate n 32) n (sym l)) refl

pub length-padded : (width : ℕ) (text : List ℕ) → length text ≤ width → length (padded width text) ≡ width
length-padded width text le = omega (arith, length-append text (replicate (width - length text) 32), length-replicate {A = ℕ} (width - length text) 32)

-- a text that fills its field is written as it is
pub padded_full : (width : ℕ) (text : List ℕ) → length text ≡ width → padded width text ≡ text
padded_full width text e =
    let z : width - length text ≡ 0 = omega arith in
    rw z (append-nil text)

-- what is written for a value fills its field
pub length-spelling : (content : Content) (width : ℕ) (value : Value) → IsHeld content width value → length (spelling content width value) ≡ width
length-spelling (Kind code) width (Bytes bytes) h = length-padded width bytes (omega (arith, ap length h.0))
length-spelling (OneOf first second) width (Bytes bytes) h = length-padded width bytes (omega arith)
length-spelling Code width (Maybe None) h = length-padded width [] (omega arith)
length-spelling Code width (Maybe (Some n)) h = sym h.1
length-spelling content width (Number n) h = length-number_text width n
length-spelling content width (Maybe None) h = length-padded width [] (omega arith)
length-spelling content width (Maybe (Some n)) h = length-number_text width n
length-spelling content width value h = absurd h

day_small : (n : ℕ) → is_day n ≡ true → n < 10 ^ 8
day_small n h = grind (arith, nat_tests)

time_small : (n : ℕ) → is_time n ≡ true → n < 10 ^ 6
time_small n h = grind (arith, nat_tests)

digits_not_blank : (n : ℕ) → is_blank (number_text 5 n) ≡ false
digits_not_blank n = grind (arith, nat_tests)

time_not_blank : (n : ℕ) → is_blank (number_text 6 n) ≡ false
time_not_blank n = grind (arith, nat_tests)

day_not_none : (n : ℕ) → is_day n ≡ true → is_no_day (number_text 8 n) ≡ false
day_not_none n h = grind (arith, nat_tests)

same_bytes : (bytes : List ℕ) → bytes_eq bytes bytes ≡ true
same_bytes bytes = (bytes_eq-Decides bytes bytes).1 refl

one_is : (bytes first second : List ℕ) → (bytes ≡ first) ⊎ (bytes ≡ second) → (bytes_eq bytes first || bytes_eq bytes second) ≡ true
one_is bytes first second (inl e) = rw (← e, same_bytes bytes) refl
one_is bytes first second (inr e) = rw (← e, same_bytes bytes) (or-true (bytes_eq bytes first))

-- what is written for a value is read as that value
value-spelling : (content : Content) (width : ℕ) (value : Value) → IsHeld content width value → value_of content (spelling content width value) ≡ Some value
value-spelling (Kind code) width (Bytes bytes) h =
    let full : padded width bytes ≡ code = padded_full width bytes (ap length h.0 ∙ h.1) ∙ h.0 in
    rw (full, same_bytes code, h.0) refl
value-spelling (OneOf first second) width (Bytes bytes) h =
    rw (padded_full width bytes h.1, one_is bytes first second h.0) refl
value-spelling Digits width (Number n) h = rw (number_of-number_text width n h) refl
value-spelling Share width (Number n) h =
    let e = number_of-number_text 5 n (omega (arith, h.0)) in
    let small : leb n whole ≡ true = grind (arith, nat_tests) in
    rw (h.1, digits_not_blank n, e, small) refl
value-spelling Day width (Number n) h = rw (h.1, number_of-number_text 8 n (day_small n h.0), h.0) refl
value-spelling Time width (Number n) h = rw (h.1, number_of-number_text 6 n (time_small n h.0), h.0) refl
value-spelling OptionalDay width (Maybe None) h = rw h refl
value-spelling OptionalDay width (Maybe (Some n)) h = rw (h.1, day_not_none n h.0, number_of-number_text 8 n (day_small n h.0), h.0) refl
value-spelling OptionalTime width (Maybe None) h = rw h refl
value-spelling OptionalTime width (Maybe (Some n)) h = rw (h.1, time_not_blank n, number_of-number_text 6 n (time_small n h.0), h.0) refl
value-spelling Code width (Maybe None) h = rw h refl
value-spelling Code width (Maybe (Some n)) h = rw (iswc_of-iswc_text n h.0) refl
value-spelling content width value h = absurd h

-- after what stands in front of it
stands_after : {X : Type 0} (front : List ℕ) (start : ℕ) (parts : List (Part X)) (x : X) → start ≡ length front + 1 → are_adjacent start parts ≡ true → IsWhole parts x
    → StandsFor parts (front ++ line_of parts x) x
stands_after front start [] x s adjacent whole = tt
stands_after front start (Read slot part ∷ parts) x s adjacent whole =
    let text = spelling slot.content slot.column.width (part x) in
    let len = length-spelling slot.content slot.column.width (part x) whole.0 in
    let here : slot.column.start ≡ start = grind (arith, nat_tests) in
    let rest : are_adjacent (start + slot.column.width) parts ≡ true = grind (arith, nat_tests) in
    let found : field (front ++ (text ++ line_of parts x)) slot.column.start slot.column.width ≡ text = field_at front text (line_of parts x) slot.column.start slot.column.width (here ∙ s) (sym len) in
    let more = stands_after (front ++ text) (start + slot.column.width) parts x (omega (arith, length-append front text)) rest whole.1 in
    (ap (value_of slot.content) found ∙ value-spelling slot.content slot.column.width (part x) whole.0, rw append_assoc at more)
stands_after front start (Kept column part ∷ parts) x s adjacent whole =
    let text = padded column.width (part x) in
    let full = padded_full column.width (part x) whole.0 in
    let len : length text ≡ column.width = ap length full ∙ whole.0 in
    let here : column.start ≡ start = grind (arith, nat_tests) in
    let rest : are_adjacent (start + column.width) parts ≡ true = grind (arith, nat_tests) in
    let found : field (front ++ (text ++ line_of parts x)) column.start column.width ≡ text = field_at front text (line_of parts x) column.start column.width (here ∙ s) (sym len) in
    let more = stands_after (front ++ text) (start + column.width) parts x (omega (arith, length-append front text)) rest whole.1 in
    (sym (found ∙ full), rw append_assoc at more)
stands_after front start (Written column text ∷ parts) x s adjacent whole =
    let fits : length text ≤ column.width = grind (arith, nat_tests) in
    let rest : are_adjacent (start + column.width) parts ≡ true = grind (arith, nat_tests) in
    let more = stands_after (front ++ padded column.width text) (start + column.width) parts x (omega (arith, length-append front (padded column.width text), length-padded column.width text fits)) rest whole in
    rw append_assoc at more

-- the line that is written for a record stands for it
pub stands : {X : Type 0} (parts : List (Part X)) (x : X) → are_adjacent 1 parts ≡ true → IsWhole parts x → StandsFor parts (line_of parts x) x
stands parts x adjacent whole = stands_after [] 1 parts x refl adjacent whole

-- a line that stands for a record has no fault
pub no_faults : {X : Type 0} (parts : List (Part X)) (line : List ℕ) (x : X) → StandsFor parts line x → faults line (checked parts) ≡ []
no_faults [] line x h = refl
no_faults (Read slot part ∷ parts) line x h =
    let some : is_some (reading line slot) ≡ true = ap is_some h.0 in
    rw some (no_faults parts line x h.1)
no_faults (Kept column part ∷ parts) line x h = no_faults parts line x h.1
no_faults (Written column text ∷ parts) line x h = no_faults parts line x h

-- what a record has in the fields that are read or kept
abbrev pub values : {X : Type 0} → List (Part X) → X → List Value
values [] x = []
values (Read slot part ∷ parts) x = part x ∷ values parts x
values (Kept column part ∷ parts) x = Bytes (part x) ∷ values parts x
values (Written column text ∷ parts) x = values parts x

some_is : {A : Type 0} (o : Option A) (x y : A) → o ≡ Some x → o ≡ Some y → x ≡ y
some_is o x y p q = cc

-- a line stands for one record at most, by its fields
pub same_values : {X : Type 0} (parts : List (Part X)) (line : List ℕ) (x y : X) → StandsFor parts line x → StandsFor parts line y → values parts x ≡ values parts y
same_values [] line x y h k = refl
same_values (Read slot part ∷ parts) line x y h k = rw (some_is (reading line slot) (part x) (part y) h.0 k.0, same_values parts line x y h.1 k.1) refl
same_values (Kept column part ∷ parts) line x y h k = rw (h.0 ∙ sym k.0, same_values parts line x y h.1 k.1) refl
same_values (Written column text ∷ parts) line x y h k = same_values parts line x y h k

-- a line that was written is read as what was written
pub read_again : {X : Type 0} (parts : List (Part X)) (line : List ℕ) (x y : X) → StandsFor parts line y
    → are_adjacent 1 parts ≡ true → (values parts y ≡ values parts x → y ≡ x) → IsWhole parts x → line ≡ line_of parts x → y ≡ x
read_again parts line x y stood adjacent same whole e =
    let written : StandsFor parts line x = rw e (stands parts x adjacent whole) in
    same (same_values parts line y x stood written)

-- and it has no fault
pub no_fault_again : {X : Type 0} (parts : List (Part X)) (line : List ℕ) (x : X) (f : FieldFault) → IsLeastFault line (checked parts) f
    → are_adjacent 1 parts ≡ true → IsWhole parts x → line ≡ line_of parts x → ⊥
no_fault_again parts line x f least adjacent whole e =
    let none = no_faults parts line x (rw e (stands parts x adjacent whole)) in
    let less : least.0.0 < 0 = rw none at least.0.1 in
    absurd (omega arith)
