-- Numbers of two digits.
use Rattle.std.proofs.Common.{◌≡◌, ◌∙◌, ℕ, ◌+◌, ◌/◌, ◌%◌, ◌<◌, ◌≤◌, List, [], ◌∷◌, ◌++◌, ap, sym, append_assoc, arith}
use Rattle.std.specs.Fmt.{decimal}
use Rattle.std.proofs.lemmas.Fmt.{decimal_digit, decimal_step}

two_digits : (n : ℕ) → 10 ≤ n → n < 100 → decimal n ≡ (48 + n / 10) ∷ (48 + n % 10) ∷ []
two_digits n low high =
    decimal_step n (omega (arith, low)) (omega (arith, high))
    ∙ ap (λ (l : List ℕ). l ++ (48 + n % 10) ∷ []) (decimal_digit (n / 10) (omega (arith, high)))

-- its digits, written one by one
pub two_written : (out front new : List ℕ) (n : ℕ) → 10 ≤ n → n < 100 → front ≡ out ++ (48 + n / 10) ∷ [] → new ≡ front ++ (48 + n % 10) ∷ [] → new ≡ out ++ decimal n
two_written out front new n low high first second =
    second
    ∙ ap (λ (l : List ℕ). l ++ (48 + n % 10) ∷ []) first
    ∙ append_assoc out ((48 + n / 10) ∷ []) ((48 + n % 10) ∷ [])
    ∙ ap (λ (l : List ℕ). out ++ l) (sym (two_digits n low high))
