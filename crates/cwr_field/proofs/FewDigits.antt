-- Numbers of other widths than eight, of which eight digits are read at once.
use Rattle.std.proofs.Common.{◌≡◌, ◌∙◌, ℕ, ◌+◌, ◌-◌, ◌*◌, ◌<◌, ◌^◌, Bool, true, false, cond, eqb, ◌≤◌, List, [], ◌∷◌, ◌++◌, length, Some, None, not, subst, sym, refl, ap, arith}
use Rattle.std.specs.Prelude.{codes, nat_le, if◌then◌else◌, IfSome, Option}
use Rattle.std.specs.List.{list_all}
use Rattle.std.specs.Str.{bytes_eq}
use Rattle.std.specs.Char.{is_ascii_digit}
use Rattle.std.specs.Str.Parse.{digits_value}
use Rattle.std.proofs.lemmas.Bool.Decides.{nat_tests}
use Rattle.std.proofs.lemmas.Int.Digits.{digits_value_push, digits_value-lt}
use Rattle.std.proofs.lemmas.List.Folds.{list_all-append}
use Rattle.std.proofs.lemmas.Slice.Eq.{bytes_eq-Decides}
use Rattle.cwr_field.specs.Number.{number_of}
use Rattle.cwr_field.specs.Layout.{is_blank}
use Rattle.cwr_field.specs.Share.{share_of, whole}
use Rattle.cwr_field.proofs.EachByte.{bytes_from, each}
use Rattle.cwr_field.proofs.lemmas.DigitSteps.{is_digit}
use Rattle.cwr_field.proofs.lemmas.Tests.{parts}
use Rattle.cwr_field.proofs.EightDigits.{all_digits}

spelled : (bytes : List ℕ) (m : ℕ) (b : Bool) → list_all is_ascii_digit bytes ≡ b → cond b (Some (digits_value 10 bytes)) None ≡ Some m → (list_all is_ascii_digit bytes ≡ true) × (digits_value 10 bytes ≡ m)
spelled bytes m true h e = (h, cc)
spelled bytes m false h e = absurd cc

unspelled : (bytes : List ℕ) (b : Bool) → list_all is_ascii_digit bytes ≡ b → cond b (Some (digits_value 10 bytes)) None ≡ None → b ≡ false
unspelled bytes true h e = absurd cc
unspelled bytes false h e = refl

-- a number has no more digits than bytes spell it
pub below : (bytes : List ℕ) (n width : ℕ) → length bytes ≡ width → number_of bytes ≡ Some n → n < 10 ^ width
below bytes n width len is =
    let known = spelled bytes n (list_all is_ascii_digit bytes) refl is in
    subst (λ (w : ℕ). n < 10 ^ w) len (rw (← known.1) (digits_value-lt 10 bytes (all_digits bytes known.0)))

pub bounded : (bytes : List ℕ) (number : Option ℕ) (width : ℕ) → length bytes ≡ width → number ≡ number_of bytes → IfSome number (λ n. n < 10 ^ width)
bounded bytes None width len is = tt
bounded bytes (Some n) width len is = below bytes n width len (sym is)

-- one digit more
pub one_more : (bytes : List ℕ) (c m : ℕ) → is_ascii_digit c ≡ true → number_of bytes ≡ Some m → number_of (bytes ++ c ∷ []) ≡ Some (m * 10 + (c - 48))
one_more bytes c m digit is =
    let known = spelled bytes m (list_all is_ascii_digit bytes) refl is in
    rw (list_all-append is_ascii_digit bytes (c ∷ []), known.0, digit, digits_value_push 10 bytes c, known.1, (is_digit c digit).value) refl

-- one of the first is no digit
pub none_front : (bytes : List ℕ) (c : ℕ) → number_of bytes ≡ None → number_of (bytes ++ c ∷ []) ≡ None
none_front bytes c is =
    let none = unspelled bytes (list_all is_ascii_digit bytes) refl is in
    rw (list_all-append is_ascii_digit bytes (c ∷ []), none) refl

zeros_are : (front zeros : List ℕ) → false ≡ not (bytes_eq front zeros) → front ≡ zeros
zeros_are front zeros e = by (bytes_eq front zeros) refl e
  where
    by : (b : Bool) → bytes_eq front zeros ≡ b → false ≡ not b → front ≡ zeros
    by true is h = (bytes_eq-Decides front zeros).0 is
    by false is h = absurd cc

-- the last eight of twelve tell the number, where zeros stand in front of them
pub behind_zeros : (xs : List ℕ) → length xs ≡ 12 → false ≡ not (bytes_eq (bytes_from 0 4 xs) (codes "0000")) → number_of xs ≡ number_of (bytes_from 4 8 xs)
behind_zeros xs len zeros = ap number_of (each 12 xs len ∙ ap (λ (front : List ℕ). front ++ bytes_from 4 8 xs) (zeros_are (bytes_from 0 4 xs) (codes "0000") zeros))

-- ---- shares

no_blank : (b : ℕ) → is_ascii_digit b ≡ true → eqb b 32 ≡ false
no_blank b e = grind (arith, nat_tests)

-- digits are no blanks
filled : (bytes : List ℕ) → 1 ≤ length bytes → list_all is_ascii_digit bytes ≡ true → is_blank bytes ≡ false
filled [] some all = absurd (omega arith)
filled (b ∷ bytes) some all = rw (no_blank b (parts (is_ascii_digit b) (list_all is_ascii_digit bytes) all).0) refl

-- the share that digits spell
share_is : (bytes : List ℕ) (n : ℕ) → length bytes ≡ 5 → number_of bytes ≡ Some n → share_of bytes ≡ (if nat_le n whole then Some n else None)
share_is bytes n len is =
    let known = spelled bytes n (list_all is_ascii_digit bytes) refl is in
    rw (filled bytes (omega (arith, len)) known.0, is) refl

pub small_share : (bytes : List ℕ) (n : ℕ) → length bytes ≡ 5 → number_of bytes ≡ Some n → n ≤ whole → Some n ≡ share_of bytes
small_share bytes n len is le =
    let small : nat_le n whole ≡ true = grind (arith, nat_tests) in
    sym (share_is bytes n len is ∙ rw small refl)

pub large_share : (bytes : List ℕ) (n : ℕ) → length bytes ≡ 5 → number_of bytes ≡ Some n → whole < n → None ≡ share_of bytes
large_share bytes n len is over =
    let large : nat_le n whole ≡ false = grind (arith, nat_tests) in
    sym (share_is bytes n len is ∙ rw large refl)
