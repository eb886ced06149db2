-- One digit more: a number read from the left.
use Rattle.std.proofs.Common.{◌≡◌, ℕ, ◌+◌, ◌-◌, ◌*◌, ◌<◌, ◌≤◌, ◌^◌, true, List, length, take, get_or, arith, refl, add-one}
use Rattle.std.specs.List.{list_all}
use Rattle.std.specs.Char.{is_ascii_digit, digit_value}
use Rattle.std.specs.Str.Parse.{digits_value}
use Rattle.std.proofs.lemmas.Bool.Decides.{nat_tests}
use Rattle.std.proofs.lemmas.Int.Digits.{digits_value_more}
use Rattle.std.proofs.lemmas.List.Folds.{list_all_more}
use Rattle.std.proofs.Math.Nat.{pow-suc, pow-le-pow_right}

-- a byte from '0' to '9'
pub record IsDigit (c : ℕ) : Type 0 where
  pub low : 48 ≤ c
  pub high : c ≤ 57
  pub value : digit_value c ≡ c - 48

pub is_digit : (c : ℕ) → is_ascii_digit c ≡ true → IsDigit c
is_digit c e = record { low = grind (arith, nat_tests); high = grind (arith, nat_tests); value = grind (arith, nat_tests) }

-- the first i bytes are digits, and spell the number n
pub record Spells (bytes : List ℕ) (i n : ℕ) : Type 0 where
  pub all : list_all is_ascii_digit (take i bytes) ≡ true
  pub value : n ≡ digits_value 10 (take i bytes)
  pub bound : n < 10 ^ i

pub spells_more : (bytes : List ℕ) (i c n : ℕ) → i < length bytes → c ≡ get_or bytes i 0 → is_ascii_digit c ≡ true
    → Spells bytes i n → Spells bytes (i + 1) (n * 10 + (c - 48))
spells_more bytes i c n lt is digit s =
    let d = is_digit c digit in
    let e = digits_value_more 10 bytes i lt in
    let p : 10 ^ (i + 1) ≡ 10 ^ i * 10 = rw add-one (pow-suc 10 i) in
    record {
      all = rw (list_all_more is_ascii_digit bytes i 0 lt, s.all, ← is, digit) refl;
      value = rw (e, ← is, d.value, ← s.value) refl;
      bound = let b = s.bound in omega (arith, p, d.low, d.high);
    }

-- a number of at most 17 digits, which has room for one more in 64 bits
pub below_power : (i : ℕ) → i < 18 → 10 ^ i ≤ 10 ^ 17
below_power i lt = pow-le-pow_right {n = 10} (omega arith) {i = i} {j = 17} (omega arith)
