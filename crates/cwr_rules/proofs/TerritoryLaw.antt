-- A collection is above the whole somewhere exactly where it is so at some code.
use Rattle.std.proofs.Common.{◌≡◌, ℕ, Bool, true, false, eqb, List, [], ◌∷◌, Option, Some, None, refl, ap, ◌∙◌, arith}
use Rattle.std.specs.Prelude.{◌||◌}
use Rattle.std.specs.List.{list_any, cons_option}
use Rattle.std.proofs.lemmas.Bool.Decides.{nat_tests}
use Rattle.cwr_rules.specs.declared.record.Record.{Record}
use Rattle.cwr_rules.specs.Totals.{included, collection, is_over, codes_of, is_over_somewhere}
use Rattle.cwr_rules.proofs.Collecting.{skipped, collected}
use Rattle.cwr_field.proofs.lemmas.Tests.{neither, or_right}

from_any : (p : ℕ → Bool) (xs : List ℕ) → list_any p xs ≡ true → (x : ℕ) × (p x ≡ true)
from_any p [] e = absurd cc
from_any p (x ∷ xs) e =
    let P : Bool → Type 0 = λ b. p x ≡ b → (b || list_any p xs) ≡ true → (y : ℕ) × (p y ≡ true) in
    (elim (p x) as P [ true ↦ λ h k. (x, h) | false ↦ λ h k. from_any p xs k ]) refl e

any_at : (p : ℕ → Bool) (code : ℕ) (xs : List ℕ) → p code ≡ true → list_any (λ c. eqb c code) xs ≡ true → list_any p xs ≡ true
any_at p code [] h e = absurd cc
any_at p code (x ∷ xs) h e =
    let P : Bool → Type 0 = λ b. eqb x code ≡ b → (b || list_any (λ c. eqb c code) xs) ≡ true → (p x || list_any p xs) ≡ true in
    (elim (eqb x code) as P [
      | true ↦ λ same k. let at : x ≡ code = grind (arith, nat_tests) in let here : p x ≡ true = ap p at ∙ h in rw here refl
      | false ↦ λ same k. or_right (p x) (list_any p xs) (any_at p code xs h k)
    ]) refl e

-- a code that no record names collects nothing
none_at : (code : ℕ) (records : List Record) → list_any (λ c. eqb c code) (codes_of records) ≡ false → collection code records ≡ collection code []
none_at code [] e = refl
none_at code (r ∷ rest) e =
    let P : Option ℕ → Type 0 = λ o. included r ≡ o → list_any (λ c. eqb c code) (cons_option o (codes_of rest)) ≡ false → collection code (r ∷ rest) ≡ collection code [] in
    (elim (included r) as P [
      | None ↦ λ is h. skipped code r rest is ∙ none_at code rest h
      | Some c ↦ λ is h. let two = neither (eqb c code) (list_any (λ c. eqb c code) (codes_of rest)) h in collected code r rest c is ∙ rw two.0 (none_at code rest two.1)
    ]) refl e

pub some_code : (records : List Record) → is_over_somewhere records ≡ true → (code : ℕ) × (is_over (collection code records) ≡ true)
some_code records e = from_any (λ code. is_over (collection code records)) (codes_of records) e

pub at_code : (records : List Record) (code : ℕ) → is_over (collection code records) ≡ true → is_over_somewhere records ≡ true
at_code records code over =
    let P : Bool → Type 0 = λ b. list_any (λ c. eqb c code) (codes_of records) ≡ b → is_over_somewhere records ≡ true in
    (elim (list_any (λ c. eqb c code) (codes_of records)) as P [
      | true ↦ λ h. any_at (λ c. is_over (collection c records)) code (codes_of records) over h
      | false ↦ λ h. let low : is_over (collection code records) ≡ false = ap is_over (none_at code records h) in absurd cc
    ]) refl
