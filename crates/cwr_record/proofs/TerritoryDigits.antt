-- A territory that is spelled by digits alone.
use Rattle.std.proofs.Common.{◌≡◌, ◌∙◌, ℕ, ◌≤◌, Bool, true, false, cond, List, [], ◌∷◌, length, Some, None, refl, sym, ap, arith}
use Rattle.std.specs.Prelude.{◌==◌}
use Rattle.std.specs.List.{list_all}
use Rattle.std.specs.Char.{is_ascii_digit}
use Rattle.std.specs.Str.Parse.{digits_value}
use Rattle.std.proofs.lemmas.Bool.Decides.{nat_tests}
use Rattle.cwr_field.specs.Number.{number_of}
use Rattle.cwr_field.proofs.lemmas.Tests.{parts}
use Rattle.cwr_record.specs.Territory.{territory_of, some_number, without_leading, without_trailing}

not_blank : (b : ℕ) → is_ascii_digit b ≡ true → (b == 32) ≡ false
not_blank b h = grind (arith, nat_tests)

all_of : (bytes : List ℕ) (n : ℕ) (b : Bool) → list_all is_ascii_digit bytes ≡ b → cond b (Some (digits_value 10 bytes)) None ≡ Some n → b ≡ true
all_of bytes n true h e = refl
all_of bytes n false h e = absurd cc

no_blanks_after : (bytes : List ℕ) → list_all is_ascii_digit bytes ≡ true → without_trailing bytes ≡ bytes
no_blanks_after [] all = refl
no_blanks_after (b ∷ bytes) all =
    let p = parts (is_ascii_digit b) (list_all is_ascii_digit bytes) all in
    rw (not_blank b p.0, no_blanks_after bytes p.1) refl

bare : (bytes : List ℕ) → list_all is_ascii_digit bytes ≡ true → 1 ≤ length bytes → territory_of bytes ≡ number_of bytes
bare [] all some = absurd (omega arith)
bare (b ∷ bytes) all some =
    let leading : without_leading (b ∷ bytes) ≡ b ∷ bytes = rw (not_blank b (parts (is_ascii_digit b) (list_all is_ascii_digit bytes) all).0) refl in
    ap (λ (xs : List ℕ). some_number (without_trailing xs)) leading ∙ ap some_number (no_blanks_after (b ∷ bytes) all)

-- digits alone are the territory's number
pub territory_of_number : (bytes : List ℕ) (n : ℕ) → 1 ≤ length bytes → number_of bytes ≡ Some n → Some n ≡ territory_of bytes
territory_of_number bytes n some is =
    let all = all_of bytes n (list_all is_ascii_digit bytes) refl is in
    sym (bare bytes all some ∙ is)
