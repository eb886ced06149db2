use Rattle.std.proofs.Common.{◌≡◌, ◌≢◌, ◌∙◌, ℕ, false, MatchOption, Option, Some, List, [], ◌∷◌, length, subst, sym}
use Rattle.std.specs.Prelude.{◌==◌, option_map}
use Rattle.rule_pages.specs.Names.{page_named}
use Rattle.rule_pages.specs.Texts.{texts_of_pages}
use Rattle.rule_pages.specs.declared.page.Page.{Page}
use Rattle.c_values.specs.Answers.{no_memory, no_rule, IsGiven}
use Rattle.purvilgo_c.specs.Explained.{pages_for}
use Rattle.purvilgo_c.proofs.AllPages.{told_of_all}
use Rattle.purvilgo_c.proofs.explaining.purvilgo_explain.Goals as goal

pub returns-then-is_empty-clause-told : goal.returns-then-is_empty-clause-told
returns-then-is_empty-clause-told c =
    told_of_all c.args.word.now c.every_page.result.now (c.write_pages.result ≡ no_rule)
    (λ pages. c.write_pages.result ≢ no_memory → IsGiven (texts_of_pages pages) c.args.out.now c.write_pages.new.out c.write_pages.new.length c.write_pages.result)
    (sym c.is_empty.ensures ∙ c.if-is_empty.true) c.every_page.ensures c.write_pages.ensures.told

told_of_one : (word : List ℕ) (page : Page) (None_told : Type 0) (Told : List Page → Type 0) → (length word == 0) ≡ false → Some page ≡ page_named word → Told (page ∷ [])
    → MatchOption (pages_for word) None_told Told
told_of_one [] page None_told Told empty named told = absurd cc
told_of_one (byte ∷ word) page None_told Told empty named told = subst (λ (o : Option Page). MatchOption (option_map (λ (p : Page). p ∷ []) o) None_told Told) named told

pub returns-in-Some-clause-told : goal.returns-in-Some-clause-told
returns-in-Some-clause-told c =
    told_of_one c.args.word.now _ (c.write_pages-in-Some.result ≡ no_rule)
    (λ pages. c.write_pages-in-Some.result ≢ no_memory → IsGiven (texts_of_pages pages) c.args.out.now c.write_pages-in-Some.new.out c.write_pages-in-Some.new.length c.write_pages-in-Some.result)
    (sym c.is_empty.ensures ∙ c.if-is_empty.false) c.in-Some.ensures c.write_pages-in-Some.ensures.told
