use Rattle.std.proofs.Common.{◌≡◌, drop}
use Rattle.std.specs.List.{find}
use Rattle.std.specs.Str.{bytes_eq}
use Rattle.rule_pages.specs.Names.{name_meant, page_name}
use Rattle.rule_pages.proofs.page.found_in.Given as goal

-- a word names none of those so far
abbrev pub invariant-loop-page : goal.invariant-loop-page
invariant-loop-page l = find (λ p. bytes_eq (page_name p) (name_meant l.word)) (drop l.page-index l.pages) ≡ find (λ p. bytes_eq (page_name p) (name_meant l.word)) l.fn.pages
