-- What is told of every page is told of a word of no bytes.
use Rattle.std.proofs.Common.{◌≡◌, ℕ, true, MatchOption, List, [], ◌∷◌, length, subst, arith}
use Rattle.std.specs.Prelude.{◌==◌}
use Rattle.std.proofs.lemmas.Bool.Decides.{nat_tests}
use Rattle.rule_pages.specs.declared.page.Page.{Page}
use Rattle.rule_pages.specs.Names.{every_page}
use Rattle.purvilgo_c.specs.Explained.{pages_for}

pub told_of_all : (word : List ℕ) (pages : List Page) (None_told : Type 0) (Told : List Page → Type 0) → (length word == 0) ≡ true → pages ≡ every_page → Told pages
    → MatchOption (pages_for word) None_told Told
told_of_all [] pages None_told Told empty all told = subst Told all told
told_of_all (byte ∷ word) pages None_told Told empty all told =
    let none : length (byte ∷ word) ≡ 0 = grind (arith, nat_tests) in absurd (omega (arith, none))
