-- Which pages are given for a word.
use Rattle.std.specs.Prelude.{ℕ, List, [], ◌∷◌, Option, Some, option_map}
use Rattle.rule_pages.specs.declared.page.Page.{Page}
use Rattle.rule_pages.specs.Names.{every_page, page_named}

-- every page for a word of no bytes, and for any other the page that it names; `None` where it names none
abbrev pub pages_for : List ℕ → Option (List Page)
pages_for [] = Some every_page
pages_for (byte ∷ word) = option_map (λ page. page ∷ []) (page_named (byte ∷ word))
