-- The nine digits of a work's code, and their check digit.
use Rattle.std.proofs.Common.{◌≡◌, ◌∙◌, ℕ, ◌+◌, ◌-◌, ◌*◌, ◌/◌, ◌%◌, Bool, true, false, List, length, get_or, Some, None, eq-eqb, refl, ap, sym, arith}
use Rattle.std.proofs.Math.Bool.{and-false}
use Rattle.std.proofs.lemmas.Bool.Decides.{nat_tests}
use Rattle.std.specs.Prelude.{◌&&◌, ◌==◌, slice_range, slice_index, if◌then◌else◌}
use Rattle.cwr_field.specs.Iswc.{check_digit, code_of, iswc_of}
use Rattle.cwr_field.specs.Layout.{is_blank}
use Rattle.cwr_field.specs.Number.{number_of}
use Rattle.cwr_field.specs.declared.codes.Iswc.TheVariants.{Blank, Valid, Wrong}
use Rattle.cwr_field.proofs.EachByte.{bytes_from, each}
use Rattle.cwr_field.proofs.lemmas.Spelling.{number_spells}
use Rattle.cwr_field.proofs.lemmas.Tests.{both}

-- nine bytes in their weights, and 1
abbrev pub weighed : List ℕ → ℕ
weighed xs =
    1 + (get_or xs 0 0 + 2 * get_or xs 1 0 + 3 * get_or xs 2 0 + 4 * get_or xs 3 0 + 5 * get_or xs 4 0) + 6 * get_or xs 5 0 + 7 * get_or xs 6 0 + 8 * get_or xs 7 0 + 9 * get_or xs 8 0

without_zeros : (a b c d e f g h i : ℕ)
    → (1 + ((48 + a) + 2 * (48 + b) + 3 * (48 + c) + 4 * (48 + d) + 5 * (48 + e)) + 6 * (48 + f) + 7 * (48 + g) + 8 * (48 + h) + 9 * (48 + i)) % 10
    ≡ (1 + (0 + 1 * a + 2 * b + 3 * c + 4 * d + 5 * e + 6 * f + 7 * g + 8 * h + 9 * i)) % 10
without_zeros a b c d e f g h i = omega arith

-- they tell the check digit of the number that they spell
pub check_is : (bytes : List ℕ) (n : ℕ) → length bytes ≡ 9 → number_of bytes ≡ Some n → 48 + (10 - weighed bytes % 10) % 10 ≡ 48 + check_digit n
check_is bytes n len is =
    let eight = n / 10 in
    let seven = eight / 10 in
    let six = seven / 10 in
    let five = six / 10 in
    let four = five / 10 in
    let three = four / 10 in
    let two = three / 10 in
    let one = two / 10 in
    ap (λ (xs : List ℕ). 48 + (10 - weighed xs % 10) % 10) (sym (number_spells bytes 9 n len is))
    ∙ ap (λ (r : ℕ). 48 + (10 - r) % 10) (without_zeros (one % 10) (two % 10) (three % 10) (four % 10) (five % 10) (six % 10) (seven % 10) (eight % 10) (n % 10))

-- the same sum, from the digits
pub check_sum : (a b c d e f g h i : ℕ) → 1 + (a + 2 * b + 3 * c + 4 * d + 5 * e) + 6 * f + 7 * g + 8 * h + 9 * i ≡ 1 + (0 + 1 * a + 2 * b + 3 * c + 4 * d + 5 * e + 6 * f + 7 * g + 8 * h + 9 * i)
check_sum a b c d e f g h i = omega arith

-- ---- what eleven bytes are

pub nine_in : (code : List ℕ) → length code ≡ 11 → slice_range code 1 10 ≡ bytes_from 1 9 code
nine_in code len = ap (λ (xs : List ℕ). slice_range xs 1 10) (each 11 code len)

pub unlike : (code : List ℕ) → length code ≡ 11 → is_blank code ≡ false → number_of (bytes_from 1 9 code) ≡ None → iswc_of code ≡ Wrong
unlike code len blank none =
    ap (λ (b : Bool). if b then Blank else code_of code (number_of (slice_range code 1 10))) blank
    ∙ ap (λ (xs : List ℕ). code_of code (number_of xs)) (nine_in code len)
    ∙ ap (code_of code) none

tested : (code : List ℕ) (n : ℕ) (b : Bool) → length code ≡ 11 → is_blank code ≡ false → number_of (bytes_from 1 9 code) ≡ Some n
    → ((slice_index code 0 == 84) && (slice_index code 10 == 48 + check_digit n)) ≡ b → iswc_of code ≡ (if b then Valid n else Wrong)
tested code n b len blank some test =
    ap (λ (b : Bool). if b then Blank else code_of code (number_of (slice_range code 1 10))) blank
    ∙ ap (λ (xs : List ℕ). code_of code (number_of xs)) (nine_in code len)
    ∙ ap (code_of code) some
    ∙ ap (λ (b : Bool). if b then Valid n else Wrong) test

other : (a b : ℕ) → (a ≡ b → ⊥) → (a == b) ≡ false
other a b ne = by (a == b) refl
  where
    by : (t : Bool) → (a == b) ≡ t → t ≡ false
    by true e = absurd (ne (let q = e in grind (arith, nat_tests)))
    by false e = refl

pub valid : (code : List ℕ) (n : ℕ) → length code ≡ 11 → is_blank code ≡ false → number_of (bytes_from 1 9 code) ≡ Some n → slice_index code 0 ≡ 84 → slice_index code 10 ≡ 48 + check_digit n
    → iswc_of code ≡ Valid n
valid code n len blank some mark check =
    tested code n true len blank some (both (slice_index code 0 == 84) (slice_index code 10 == 48 + check_digit n) (eq-eqb _ _ mark) (eq-eqb _ _ check))

pub unmarked : (code : List ℕ) (n : ℕ) → length code ≡ 11 → is_blank code ≡ false → number_of (bytes_from 1 9 code) ≡ Some n → (slice_index code 0 ≡ 84 → ⊥) → iswc_of code ≡ Wrong
unmarked code n len blank some mark =
    tested code n false len blank some (ap (λ (b : Bool). b && (slice_index code 10 == 48 + check_digit n)) (other (slice_index code 0) 84 mark))

pub unchecked : (code : List ℕ) (n : ℕ) → length code ≡ 11 → is_blank code ≡ false → number_of (bytes_from 1 9 code) ≡ Some n → (slice_index code 10 ≡ 48 + check_digit n → ⊥) → iswc_of code ≡ Wrong
unchecked code n len blank some check =
    tested code n false len blank some
    (ap (λ (b : Bool). (slice_index code 0 == 84) && b) (other (slice_index code 10) (48 + check_digit n) check) ∙ and-false (slice_index code 0 == 84))
