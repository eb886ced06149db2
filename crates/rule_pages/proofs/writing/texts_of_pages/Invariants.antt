use Rattle.std.proofs.Common.{◌≡◌, ◌++◌, drop}
use Rattle.rule_pages.specs.Texts.{texts_of_pages}
use Rattle.rule_pages.proofs.writing.texts_of_pages.Given as goal

-- what is written and what is left make the whole
abbrev pub invariant-loop-page : goal.invariant-loop-page
invariant-loop-page g l = l.text.items ++ texts_of_pages (drop l.page-index l.pages) ≡ texts_of_pages l.fn.pages
