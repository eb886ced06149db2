-- The digits of a number as one number: they go up with it, and a line that has them states it.
use Rattle.std.proofs.Common.{◌≡◌, ◌∙◌, ℕ, suc, zero, ◌+◌, ◌/◌, ◌%◌, ◌<◌, ◌^◌, List, [], ◌∷◌, ◌++◌, length, get_or, Some, arith, refl, sym, ap}
use Rattle.std.specs.Int.{w64, from_be_bytes}
use Rattle.std.proofs.lemmas.Nat.{be_bytes_8}
use Rattle.cwr_field.specs.Number.{number_of, number_text}
use Rattle.cwr_field.proofs.lemmas.DigitText.{number_of-number_text, length-number_text}
use Rattle.cwr_grammar.specs.Awaited.{packed_digits_of}

-- ---- the number after it

-- the last of eight bytes is what is left of 256
low_byte : (xs : List ℕ) (b : ℕ) → length xs ≡ 7 → b < 256 → from_be_bytes w64 (xs ++ b ∷ []) % 256 ≡ b
low_byte [] b len lt = absurd (omega arith)
low_byte (x1 ∷ []) b len lt = absurd (omega arith)
low_byte (x1 ∷ x2 ∷ []) b len lt = absurd (omega arith)
low_byte (x1 ∷ x2 ∷ x3 ∷ []) b len lt = absurd (omega arith)
low_byte (x1 ∷ x2 ∷ x3 ∷ x4 ∷ []) b len lt = absurd (omega arith)
low_byte (x1 ∷ x2 ∷ x3 ∷ x4 ∷ x5 ∷ []) b len lt = absurd (omega arith)
low_byte (x1 ∷ x2 ∷ x3 ∷ x4 ∷ x5 ∷ x6 ∷ []) b len lt = absurd (omega arith)
low_byte (x1 ∷ x2 ∷ x3 ∷ x4 ∷ x5 ∷ x6 ∷ x7 ∷ []) b len lt = omega arith
low_byte (x1 ∷ x2 ∷ x3 ∷ x4 ∷ x5 ∷ x6 ∷ x7 ∷ x8 ∷ xs) b len lt = absurd (omega arith)

-- and one more of it is one more
next_byte : (xs : List ℕ) (b : ℕ) → length xs ≡ 7 → from_be_bytes w64 (xs ++ (b + 1) ∷ []) ≡ from_be_bytes w64 (xs ++ b ∷ []) + 1
next_byte [] b len = absurd (omega arith)
next_byte (x1 ∷ []) b len = absurd (omega arith)
next_byte (x1 ∷ x2 ∷ []) b len = absurd (omega arith)
next_byte (x1 ∷ x2 ∷ x3 ∷ []) b len = absurd (omega arith)
next_byte (x1 ∷ x2 ∷ x3 ∷ x4 ∷ []) b len = absurd (omega arith)
next_byte (x1 ∷ x2 ∷ x3 ∷ x4 ∷ x5 ∷ []) b len = absurd (omega arith)
next_byte (x1 ∷ x2 ∷ x3 ∷ x4 ∷ x5 ∷ x6 ∷ []) b len = absurd (omega arith)
next_byte (x1 ∷ x2 ∷ x3 ∷ x4 ∷ x5 ∷ x6 ∷ x7 ∷ []) b len = omega arith
next_byte (x1 ∷ x2 ∷ x3 ∷ x4 ∷ x5 ∷ x6 ∷ x7 ∷ x8 ∷ xs) b len = absurd (omega arith)

pub last_digit : (n : ℕ) → packed_digits_of n % 256 ≡ 48 + n % 10
unfolding packed_digits_of
last_digit n = low_byte (number_text 7 (n / 10)) (48 + n % 10) (length-number_text 7 (n / 10)) (omega arith)

pub next_digit : (n : ℕ) → n % 10 < 9 → packed_digits_of (n + 1) ≡ packed_digits_of n + 1
unfolding packed_digits_of
next_digit n lt =
    let same : (n + 1) / 10 ≡ n / 10 = omega (arith, lt) in
    let more : 48 + (n + 1) % 10 ≡ 48 + n % 10 + 1 = omega (arith, lt) in
    ap (λ (k : ℕ). from_be_bytes w64 (number_text 7 k ++ (48 + (n + 1) % 10) ∷ [])) same
    ∙ ap (λ (b : ℕ). from_be_bytes w64 (number_text 7 (n / 10) ++ b ∷ [])) more
    ∙ next_byte (number_text 7 (n / 10)) (48 + n % 10) (length-number_text 7 (n / 10))

-- ---- what a line states

digit_small : (n i : ℕ) → get_or (number_text 8 n) i 0 < 256
digit_small n zero = omega arith
digit_small n (suc zero) = omega arith
digit_small n (suc (suc zero)) = omega arith
digit_small n (suc (suc (suc zero))) = omega arith
digit_small n (suc (suc (suc (suc zero)))) = omega arith
digit_small n (suc (suc (suc (suc (suc zero))))) = omega arith
digit_small n (suc (suc (suc (suc (suc (suc zero)))))) = omega arith
digit_small n (suc (suc (suc (suc (suc (suc (suc zero))))))) = omega arith
digit_small n (suc (suc (suc (suc (suc (suc (suc (suc i)))))))) = omega arith

pub number_read : (field : List ℕ) (n : ℕ) → length field ≡ 8 → ((i : ℕ) → get_or field i 0 < 256) → n < 10 ^ 8 → from_be_bytes w64 field ≡ packed_digits_of n → number_of field ≡ Some n
unfolding packed_digits_of
number_read field n len bytes few is =
    let same : field ≡ number_text 8 n =
    sym (be_bytes_8 field (from_be_bytes w64 field) len bytes refl) ∙ be_bytes_8 (number_text 8 n) (from_be_bytes w64 field) (length-number_text 8 n) (digit_small n) is in
    ap number_of same ∙ number_of-number_text 8 n few
