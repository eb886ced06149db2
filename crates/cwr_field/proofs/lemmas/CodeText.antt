-- A work's code that was written is read again.
use Rattle.std.proofs.Common.{◌≡◌, ◌∙◌, ℕ, ◌+◌, ◌<◌, ◌^◌, Bool, true, ap, arith, Some}
use Rattle.std.specs.Prelude.{◌==◌, if◌then◌else◌}
use Rattle.std.proofs.lemmas.Bool.Decides.{nat_tests}
use Rattle.cwr_field.specs.Iswc.{check_digit, code_of, iswc_of, iswc_text}
use Rattle.cwr_field.specs.declared.codes.Iswc.TheVariants.{Valid, Wrong}
use Rattle.cwr_field.proofs.lemmas.DigitText.{number_of-number_text}

same : (c : ℕ) → (c == c) ≡ true
same c = grind (arith, nat_tests)

-- T and the check digit stand in their places
code_of-iswc_text : (n : ℕ) → code_of (iswc_text n) (Some n) ≡ Valid n
code_of-iswc_text n = ap (λ (b : Bool). if b then Valid n else Wrong) (same (48 + check_digit n))

pub iswc_of-iswc_text : (n : ℕ) → n < 10 ^ 9 → iswc_of (iswc_text n) ≡ Valid n
iswc_of-iswc_text n fits = ap (code_of (iswc_text n)) (number_of-number_text 9 n fits) ∙ code_of-iswc_text n
