-- Two digits at a step.
use Rattle.std.proofs.Common.{◌≡◌, ℕ, zero, suc, ◌+◌, ◌*◌, ◌/◌, ◌%◌, ◌<◌, ◌≤◌, Bool, true, List, ◌++◌, length, take, drop, get_or, length-append, length-drop, ◌∙◌, ap, arith, sym, refl, append_assoc}
use Rattle.std.specs.Prelude.{◌==◌, ◌&&◌}
use Rattle.std.proofs.lemmas.Bool.Decides.{Decides-below_and, nat_tests}
use Rattle.std.proofs.lemmas.List.{length-take-le, drop_at, drop-drop}
use borrow.Rule.Slice.PartMut.{put_mid}
use Rattle.cwr_field.specs.Number.{number_text, digit_pair}
use Rattle.cwr_field.specs.declared.number.TheConstants.{PAIRS}

abbrev is_pair : ℕ → Bool
is_pair n = (get_or PAIRS (n * 2) 0 == 48 + n / 10) && (get_or PAIRS (n * 2 + 1) 0 == 48 + n % 10)

abbrev are_pairs : ℕ → Bool
are_pairs zero = true
are_pairs (suc n) = is_pair n && are_pairs n

pub record IsPair (n : ℕ) : Type 0 where
  pub tens : get_or PAIRS (n * 2) 0 ≡ 48 + n / 10
  pub ones : get_or PAIRS (n * 2 + 1) 0 ≡ 48 + n % 10

pair_is : (a b x y : ℕ) → ((a == x) && (b == y)) ≡ true → (a ≡ x) × (b ≡ y)
pair_is a b x y e = (grind (arith, nat_tests), grind (arith, nat_tests))

-- the table has the digits of each number below 100
pub table_pair : (n : ℕ) → n < 100 → IsPair n
table_pair n lt =
    let test = (Decides-below_and is_pair (λ k. is_pair k ≡ true) are_pairs (λ k. (λ e. e, λ e. e)) refl (λ _. refl) 100).0 refl n lt in
    let both = pair_is _ _ _ _ test in
    record { tens = both.0; ones = both.1 }

-- the last two digits, behind those of the hundreds
pub two_digits : (width n : ℕ) → number_text (suc (suc width)) n ≡ number_text width (n / 100) ++ digit_pair (n % 100)
two_digits width n =
    let hundreds : n / 10 / 10 ≡ n / 100 = omega arith in
    let tens : n / 10 % 10 ≡ n % 100 / 10 = omega arith in
    let ones : n % 10 ≡ n % 100 % 10 = omega arith in
    rw (append_assoc, hundreds, tens, ← ones) refl

-- two digits are written in front of those that stand, and the slice keeps its length
pub record StandsInFront (new xs : List ℕ) (i j n : ℕ) : Type 0 where
  pub len : length new ≡ length xs
  pub within : i ≤ length new
  pub text : number_text i (n / 100) ++ drop i new ≡ number_text j n ++ drop j xs

in_front : (xs ys : List ℕ) (i j n : ℕ) → i + 2 ≡ j → j ≤ length xs → ys ≡ digit_pair (n % 100)
    → StandsInFront (take i xs ++ (ys ++ drop 2 (drop i xs))) xs i j n
in_front xs ys i j n next le is =
    let before : length (take i xs) ≡ i = length-take-le i xs (omega arith) in
    let two : suc (suc i) ≡ j = omega arith in
    let e : number_text j n ≡ number_text i (n / 100) ++ digit_pair (n % 100) = ap (λ width. number_text width n) (sym two) ∙ two_digits i n in
    let behind : drop 2 (drop i xs) ≡ drop j xs = drop-drop 2 i xs ∙ ap (λ k. drop k xs) next in
    let pair : length ys ≡ 2 = ap length is in
    let len : length (take i xs ++ (ys ++ drop 2 (drop i xs))) ≡ length xs = rw (length-append (take i xs) (ys ++ drop 2 (drop i xs)), length-append ys (drop 2 (drop i xs)), behind) (omega (arith, length-drop j xs)) in
    record {
      len = len;
      within = omega arith;
      text = rw (drop_at (take i xs) (ys ++ drop 2 (drop i xs)) i before, behind, is, e, append_assoc) refl;
    }

pub pair_in_front : (xs ys : List ℕ) (i j k n : ℕ) → k ≡ 2 → i + 2 ≡ j → j ≤ length xs → ys ≡ digit_pair (n % 100)
    → StandsInFront (put_mid i k xs ys) xs i j n
pair_in_front xs ys i j k n two next le is = rw two (in_front xs ys i j n next le is)
