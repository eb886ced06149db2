-- The texts of an acknowledgement tell the values of its items.
use Rattle.std.proofs.Common.{◌≡◌, ◌∙◌, ℕ, zero, suc, ◌-◌, ◌<◌, ◌≤◌, ◌^◌, Bool, true, List, [], ◌∷◌, length, take, replicate, get_or, Option, Some, None, arith, ap, sym, refl}
use Rattle.std.specs.Prelude.{nat_le}
use Rattle.std.specs.List.{list_all}
use Rattle.std.specs.Option.{ForSome}
use Rattle.std.proofs.lemmas.Bool.Decides.{nat_tests}
use Rattle.cwr_field.specs.Layout.{padded}
use Rattle.cwr_field.specs.Number.{number_of}
use Rattle.cwr_field.proofs.lemmas.DigitText.{number_of-number_text}
use Rattle.cwr_acknowledgement.specs.Messages.{message_texts, message_text}
use Rattle.cwr_acknowledgement.specs.Acknowledgement.{work_text}
use Rattle.cwr_field.proofs.lemmas.SameFronts.{same_fronts}

pub first_of_text : List ℕ → ℕ
first_of_text text = get_or text 0 0

-- what a text is read as

abbrev work_of : List ℕ → Option ℕ
work_of text = number_of (take 8 text)

work_again : (work : Option ℕ) → ForSome work (λ n. n < 10 ^ 8) → work_of (padded 20 (work_text work)) ≡ work
work_again None fits = refl
work_again (Some n) fits = number_of-number_text 8 n (fits n refl)

pub same_work : (a b : Option ℕ) → ForSome a (λ n. n < 10 ^ 8) → ForSome b (λ n. n < 10 ^ 8)
    → padded 20 (work_text a) ≡ padded 20 (work_text b) → a ≡ b
same_work a b p q e = sym (work_again a p) ∙ ap work_of e ∙ work_again b q

pub same_padded : (width : ℕ) (a b : List ℕ) → length a ≡ length b → padded width a ≡ padded width b → a ≡ b
same_padded width a b len e = (same_fronts a b (replicate (width - length a) 32) (replicate (width - length b) 32) len e).0

-- their widths

pub length-padded_work : (work : Option ℕ) → length (padded 20 (work_text work)) ≡ 20
length-padded_work None = refl
length-padded_work (Some n) = refl

abbrev all_short : List (List ℕ) → Bool
all_short texts = list_all (λ text. nat_le (length text) 150) texts

short_at : (texts : List (List ℕ)) (i : ℕ) → all_short texts ≡ true → length (get_or texts i []) ≤ 150
short_at [] i h = omega arith
short_at (text ∷ texts) zero h = grind (arith, nat_tests)
short_at (text ∷ texts) (suc i) h = short_at texts i (grind (arith, nat_tests))

-- each text of a message fits its field
pub length-message_text : (number : ℕ) → length (message_text number) ≤ 150
length-message_text number = short_at message_texts (number - 1) refl
