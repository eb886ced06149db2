-- What a field spells, and that it has one spelling.
use Rattle.std.proofs.Common.{◌≡◌, ◌∙◌, ℕ, zero, suc, ◌+◌, ◌-◌, ◌*◌, ◌/◌, ◌%◌, ◌<◌, ◌≤◌, Bool, true, false, eqb, List, [], ◌∷◌, ◌++◌, length, take, drop, get_or, replicate, Option, Some, None, arith, ap, sym, refl, cond, add-one}
use Rattle.std.specs.Prelude.{◌&&◌, slice_range, slice_index, ◌==◌, if◌then◌else◌}
use Rattle.std.specs.List.{list_all}
use Rattle.std.specs.Char.{is_ascii_digit, digit_value}
use Rattle.std.specs.Str.Parse.{digits_value}
use Rattle.std.proofs.lemmas.Bool.Decides.{nat_tests}
use Rattle.std.proofs.lemmas.Int.Digits.{digits_value_more}
use Rattle.std.proofs.lemmas.List.{take_more, take_all, length-take, length-drop, length-append, length-replicate}
use Rattle.std.proofs.lemmas.List.Folds.{list_all_more}
use Rattle.cwr_field.specs.Layout.{field, is_blank}
use Rattle.cwr_field.specs.Number.{number_of, number_text}
use Rattle.cwr_field.specs.Iswc.{check_digit, code_of, iswc_of, iswc_text}
use Rattle.cwr_field.specs.declared.codes.Iswc.TheVariants.{Blank, Valid, Wrong}
use Rattle.cwr_field.proofs.lemmas.DigitSteps.{is_digit}
use Rattle.cwr_field.proofs.lemmas.Tests.{parts}

pub length-field : (line : List ℕ) (start n : ℕ) → length (field line start n) ≡ n
length-field line start n =
    let l = drop (start - 1) line in
    omega (arith, length-take n (l ++ replicate n 32), length-append l (replicate n 32), length-replicate {A = ℕ} n 32)

-- ---- numbers

-- one digit more
digit_more : (i v c : ℕ) (xs : List ℕ) → is_ascii_digit c ≡ true → number_text i v ≡ xs → number_text (suc i) (v * 10 + digit_value c) ≡ xs ++ c ∷ []
digit_more i v c xs h e =
    let d = is_digit c h in
    let high = d.high in
    let low = d.low in
    let front : (v * 10 + (c - 48)) / 10 ≡ v = omega (arith, low, high) in
    let last : 48 + (v * 10 + (c - 48)) % 10 ≡ c = omega (arith, low, high) in
    rw (d.value, front, last, e) refl

digits_spell : (bytes : List ℕ) (i : ℕ) → i ≤ length bytes → list_all is_ascii_digit (take i bytes) ≡ true → number_text i (digits_value 10 (take i bytes)) ≡ take i bytes
digits_spell bytes zero le h = refl
digits_spell bytes (suc i) le h =
    let next : i + 1 ≡ suc i = add-one i in
    let lt : i < length bytes = omega (arith, le) in
    let all : (list_all is_ascii_digit (take i bytes) && is_ascii_digit (get_or bytes i 0)) ≡ true = sym (list_all_more is_ascii_digit bytes i 0 lt) ∙ ap (λ (n : ℕ). list_all is_ascii_digit (take n bytes)) next ∙ h in
    let p = parts (list_all is_ascii_digit (take i bytes)) (is_ascii_digit (get_or bytes i 0)) all in
    let so_far = digits_spell bytes i (omega (arith, lt)) p.0 in
    let value : digits_value 10 (take (suc i) bytes) ≡ digits_value 10 (take i bytes) * 10 + digit_value (get_or bytes i 0) = ap (λ (n : ℕ). digits_value 10 (take n bytes)) (sym next) ∙ digits_value_more 10 bytes i lt in
    ap (λ (n : ℕ). number_text (suc i) n) value
    ∙ digit_more i (digits_value 10 (take i bytes)) (get_or bytes i 0) (take i bytes) p.1 so_far
    ∙ sym (take_more bytes i 0 lt) ∙ ap (λ (n : ℕ). take n bytes) next

some_number : (bytes : List ℕ) (n : ℕ) (b : Bool) → list_all is_ascii_digit bytes ≡ b → cond b (Some (digits_value 10 bytes)) None ≡ Some n → (b ≡ true) × (digits_value 10 bytes ≡ n)
some_number bytes n true h e = (refl, cc)
some_number bytes n false h e = absurd cc

-- digits are the text of the number that they spell
pub number_spells : (bytes : List ℕ) (width n : ℕ) → length bytes ≡ width → number_of bytes ≡ Some n → number_text width n ≡ bytes
number_spells bytes width n len e =
    let known = some_number bytes n (list_all is_ascii_digit bytes) refl e in
    let whole : take (length bytes) bytes ≡ bytes = take_all (length bytes) bytes (omega arith) in
    let all : list_all is_ascii_digit (take (length bytes) bytes) ≡ true = ap (list_all is_ascii_digit) whole ∙ known.0 in
    let text = digits_spell bytes (length bytes) (omega arith) all in
    rw (← len, ← known.1) (ap (λ (xs : List ℕ). number_text (length bytes) (digits_value 10 xs)) (sym whole) ∙ text ∙ whole)

-- ---- codes

all_blank : (n : ℕ) (bytes : List ℕ) → length bytes ≡ n → is_blank bytes ≡ true → bytes ≡ replicate n 32
all_blank zero [] len h = refl
all_blank zero (b ∷ bytes) len h = absurd (omega arith)
all_blank (suc n) [] len h = absurd (omega arith)
all_blank (suc n) (b ∷ bytes) len h =
    let p = parts (eqb b 32) (is_blank bytes) h in
    let first : b ≡ 32 = (let q = p.0 in grind (arith, nat_tests)) in
    rw (first, all_blank n bytes (omega (arith, len)) p.1) refl

eleven : (bytes : List ℕ) → length bytes ≡ 11 → bytes ≡ get_or bytes 0 0 ∷ slice_range bytes 1 10 ++ get_or bytes 10 0 ∷ []
eleven [] len = absurd (omega arith)
eleven (b ∷ bytes) len =
    let lt : 9 < length bytes = omega (arith, len) in
    let whole : take 10 bytes ≡ bytes = take_all 10 bytes (omega (arith, len)) in
    ap (λ (xs : List ℕ). b ∷ xs) (sym whole ∙ take_more bytes 9 0 lt)

code_is : (bytes : List ℕ) (m n : ℕ) (b : Bool) → (((slice_index bytes 0 == 84) && (slice_index bytes 10 == 48 + check_digit m)) ≡ b) → (if b then Valid m else Wrong) ≡ Valid n
    → (m ≡ n) × (slice_index bytes 0 ≡ 84) × (slice_index bytes 10 ≡ 48 + check_digit m)
code_is bytes m n false h e = absurd cc
code_is bytes m n true h e =
    let p = parts (slice_index bytes 0 == 84) (slice_index bytes 10 == 48 + check_digit m) h in
    (cc, (let q = p.0 in grind (arith, nat_tests)), (let q = p.1 in grind (arith, nat_tests)))

between : (a b c d : ℕ) (xs ys : List ℕ) → a ≡ b → xs ≡ ys → c ≡ d → a ∷ xs ++ c ∷ [] ≡ b ∷ ys ++ d ∷ []
between a b c d xs ys p q r = rw (p, q, r) refl

code_spells : (bytes : List ℕ) (n : ℕ) (o : Option ℕ) → length bytes ≡ 11 → number_of (slice_range bytes 1 10) ≡ o → code_of bytes o ≡ Valid n → iswc_text n ≡ bytes
code_spells bytes n None len is e = absurd cc
code_spells bytes n (Some m) len is e =
    let k = code_is bytes m n ((slice_index bytes 0 == 84) && (slice_index bytes 10 == 48 + check_digit m)) refl e in
    let nine : length (slice_range bytes 1 10) ≡ 9 = omega (arith, len, length-take 9 (drop 1 bytes), length-drop 1 bytes) in
    let digits = number_spells (slice_range bytes 1 10) 9 m nine is in
    ap iswc_text (sym k.0)
    ∙ between 84 (get_or bytes 0 0) (48 + check_digit m) (get_or bytes 10 0) (number_text 9 m) (slice_range bytes 1 10) (sym k.1) digits (sym k.2)
    ∙ sym (eleven bytes len)

-- a valid code is the text of its number
pub code_some : (bytes : List ℕ) (n : ℕ) → length bytes ≡ 11 → iswc_of bytes ≡ Valid n → iswc_text n ≡ bytes
code_some bytes n len e = by (is_blank bytes) e
  where
    by : (b : Bool) → (if b then Blank else code_of bytes (number_of (slice_range bytes 1 10))) ≡ Valid n → iswc_text n ≡ bytes
    by true h = absurd cc
    by false h = code_spells bytes n (number_of (slice_range bytes 1 10)) len refl h

never_blank : (bytes : List ℕ) (o : Option ℕ) → code_of bytes o ≡ Blank → ⊥
never_blank bytes None e = cc
never_blank bytes (Some m) e = by ((slice_index bytes 0 == 84) && (slice_index bytes 10 == 48 + check_digit m)) e
  where
    by : (b : Bool) → (if b then Valid m else Wrong) ≡ Blank → ⊥
    by true h = cc
    by false h = cc

-- no code is blanks alone
pub code_blank : (bytes : List ℕ) → length bytes ≡ 11 → iswc_of bytes ≡ Blank → bytes ≡ replicate 11 32
code_blank bytes len e = by (is_blank bytes) refl e
  where
    by : (b : Bool) → is_blank bytes ≡ b → (if b then Blank else code_of bytes (number_of (slice_range bytes 1 10))) ≡ Blank → bytes ≡ replicate 11 32
    by true is h = all_blank 11 bytes len is
    by false is h = absurd (never_blank bytes (number_of (slice_range bytes 1 10)) h)
