-- A number in digits is read again, and digits are the text of their number.
use Rattle.std.proofs.Common.{◌≡◌, ℕ, zero, suc, ◌+◌, ◌/◌, ◌%◌, ◌<◌, ◌≤◌, ◌^◌, true, List, [], ◌∷◌, ◌++◌, length, take, drop, arith, sym, refl, append_assoc, Some, add-one}
use Rattle.std.proofs.Math.ListN.{set}
use Rattle.std.proofs.Math.Nat.{pow-suc}
use Rattle.std.proofs.lemmas.List.{drop-set, length-take, length_push}
use Rattle.std.proofs.lemmas.List.Folds.{list_all-append}
use Rattle.std.proofs.lemmas.Int.Digits.{digits_value_push}
use Rattle.std.proofs.Math.Seq.{take-set-lt}
use Rattle.std.proofs.lemmas.Bool.Decides.{nat_tests}
use Rattle.std.specs.List.{list_all}
use Rattle.std.specs.Char.{is_ascii_digit}
use Rattle.std.specs.Str.Parse.{digits_value}
use Rattle.cwr_field.specs.Number.{number_text, number_of}
use Rattle.cwr_field.proofs.lemmas.DigitSteps.{is_digit}

-- the digit that a loop from the right writes
pub digit_in_front : (xs : List ℕ) (i j width n : ℕ) → i + 1 ≡ j → i < width → width ≤ length xs
    → number_text i (n / 10) ++ drop i (take width (set xs i (48 + n % 10))) ≡ number_text j n ++ drop j (take width xs)
digit_in_front xs i j width n next lt le =
    let inside : i < length (take width xs) = omega (arith, length-take width xs) in
    rw (take-set-lt width xs i (48 + n % 10) lt, drop-set (take width xs) i (48 + n % 10) inside, ← next, add-one) (sym (append_assoc (number_text i (n / 10)) ((48 + n % 10) ∷ []) (drop (suc i) (take width xs))))

-- a number's text fills its width
pub length-number_text : (width n : ℕ) → length (number_text width n) ≡ width
length-number_text zero n = refl
length-number_text (suc width) n = omega (arith, length_push (number_text width (n / 10)) (48 + n % 10), length-number_text width (n / 10))

digit_is : (n : ℕ) → is_ascii_digit (48 + n % 10) ≡ true
digit_is n = grind (arith, nat_tests)

-- a number's text is made of digits
pub all_digits : (width n : ℕ) → list_all is_ascii_digit (number_text width n) ≡ true
all_digits zero n = refl
all_digits (suc width) n = rw (list_all-append is_ascii_digit (number_text width (n / 10)) ((48 + n % 10) ∷ []), all_digits width (n / 10), digit_is n) refl

-- the digits of a number that fits spell it
pub digits_value-number_text : (width n : ℕ) → n < 10 ^ width → digits_value 10 (number_text width n) ≡ n
digits_value-number_text zero n lt = omega arith
digits_value-number_text (suc width) n lt =
    let d = (is_digit (48 + n % 10) (digit_is n)).value in
    let small : n / 10 < 10 ^ width = omega (arith, pow-suc 10 width) in
    rw (digits_value_push 10 (number_text width (n / 10)) (48 + n % 10), digits_value-number_text width (n / 10) small, d) (omega arith)

-- what was written is read again
pub number_of-number_text : (width n : ℕ) → n < 10 ^ width → number_of (number_text width n) ≡ Some n
number_of-number_text width n lt = rw (all_digits width n, digits_value-number_text width n lt) refl
