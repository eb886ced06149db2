-- The texts of pages, those of rules and those of answers.
use Rattle.std.specs.Prelude.{ℕ, List}
use Rattle.std.specs.List.{flat_map}
use Rattle.rule_pages.specs.Answers.{answer_text}
use Rattle.rule_pages.specs.Pages.{page_text as rule_text}
use Rattle.rule_pages.specs.declared.page.Page.{Page}
use Rattle.rule_pages.specs.declared.page.Page.TheVariants as page

-- the text of a page
abbrev pub page_text : Page → List ℕ
page_text (page.Rule r) = rule_text r
page_text (page.Answer s) = answer_text s

-- the texts of these pages, in order
abbrev pub texts_of_pages : List Page → List ℕ
texts_of_pages pages = flat_map page_text pages
