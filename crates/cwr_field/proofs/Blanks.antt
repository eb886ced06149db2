-- The blanks past a line's end.
use Rattle.std.proofs.Common.{◌≡◌, ℕ, zero, suc, ◌-◌, ◌<◌, ◌&&◌, ◌||◌, Bool, true, false, List, [], ◌∷◌, ◌++◌, length, replicate, refl, arith, None}
use Rattle.std.proofs.Math.Bool.{and-true, or-true}
use Rattle.std.specs.Prelude.{◌==◌}
use Rattle.std.specs.List.{list_all, list_any}
use Rattle.std.proofs.lemmas.List.Folds.{list_all-append, list_any-append}
use Rattle.std.proofs.lemmas.Bool.Decides.{nat_tests}
use Rattle.std.specs.Char.{is_ascii_digit}
use Rattle.cwr_field.specs.Layout.{is_blank, padded}
use Rattle.cwr_field.specs.Number.{number_of}

all_blanks : (n : ℕ) → is_blank (replicate n 32) ≡ true
all_blanks zero = refl
all_blanks (suc n) = all_blanks n

-- blanks after a text leave it as blank as it is
pub is_blank-padded : (width : ℕ) (text : List ℕ) → is_blank (padded width text) ≡ is_blank text
is_blank-padded width text =
    rw (list_all-append (λ (b : ℕ). b == 32) text (replicate (width - length text) 32), all_blanks (width - length text)) (and-true (is_blank text))

-- a text that is too short for its field is followed by a blank
pub any_blank : (n : ℕ) (text : List ℕ) → 0 < n → list_any (λ b. b == 32) (text ++ replicate n 32) ≡ true
any_blank zero text h = absurd (omega arith)
any_blank (suc n) text h = rw (list_any-append (λ (b : ℕ). b == 32) text (replicate (suc n) 32)) (or-true (list_any (λ b. b == 32) text))

blank_or_digit : (b : ℕ) (rest_blank rest_digits : Bool) → (rest_blank ≡ true → rest_digits ≡ false)
    → ((b == 32) || rest_blank) ≡ true → (is_ascii_digit b && rest_digits) ≡ false
blank_or_digit b rest_blank rest_digits h e = grind (arith, nat_tests)

some_blank : (text : List ℕ) → list_any (λ b. b == 32) text ≡ true → list_all is_ascii_digit text ≡ false
some_blank [] h = absurd (cc)
some_blank (b ∷ text) h = blank_or_digit b (list_any (λ b. b == 32) text) (list_all is_ascii_digit text) (some_blank text) h

-- a text with a blank in it is no number
pub number_of-blank : (text : List ℕ) → list_any (λ b. b == 32) text ≡ true → number_of text ≡ None
number_of-blank text h = rw (some_blank text h) refl
