-- Where the pieces of the rules that are broken stand.
use Rattle.std.proofs.Common.{◌≡◌, ℕ, zero, suc, true, List, [], ◌∷◌, Option, Some, None, refl}
use Rattle.std.specs.Prelude.{◌==◌}
use Rattle.std.specs.Fmt.{decimal}
use Rattle.std.specs.List.{count_by}
use Rattle.cwr_report.specs.declared.finding.Finding.{Finding}
use Rattle.rule_pages.specs.declared.rule.Rule.{Rule}
use Rattle.rule_pages.specs.Pages.{rule_named}
use Rattle.html_text.specs.Contexts.{Text, Quoted, behind, is_rule_letter, of_transactions}
use Rattle.html_text.specs.Fragments.{fragment_text}
use Rattle.html_text.proofs.lemmas.Contexts.{Keeps, behind_append, both, either, text}
use Rattle.check_pages.specs.RuleIndex.{broken_row_pieces, row_count_pieces, row_page_pieces, row_pieces, row_title_pieces, rows_pieces, some_row_pieces}
use Rattle.check_pages.specs.Sections.{is_of}
use Rattle.check_pages.proofs.ContextsOfFaults.{rule_quoted, rule_text}

row_title : (letter number : ℕ) (rule : Rule) → is_rule_letter letter ≡ true → behind Text (row_title_pieces letter number rule) ≡ Quoted
unfolding row_title_pieces fragment_text
row_title letter number rule is = simp (behind_append, rule_text letter number, text, rule_quoted letter number is) refl

row_page : (rule : Rule) → behind Quoted (row_page_pieces rule) ≡ Text
unfolding row_page_pieces fragment_text
row_page rule = simp (behind_append, text) refl

row_count : (letter number total : ℕ) → is_rule_letter letter ≡ true → Keeps (row_count_pieces letter number total)
unfolding row_count_pieces fragment_text
row_count letter number total is = simp (behind_append, rule_quoted letter number is) refl

row : (letter number total : ℕ) (rule : Rule) → is_rule_letter letter ≡ true → Keeps (row_pieces letter number total rule)
unfolding row_pieces
row letter number total rule is = simp (behind_append, row_title letter number rule is, row_page, row_count letter number total is) refl

some_row : (letter number total : ℕ) (rule : Option Rule) → is_rule_letter letter ≡ true → Keeps (some_row_pieces letter number total rule)
unfolding some_row_pieces
some_row letter number total None is = refl
some_row letter number total (Some rule) is = row letter number total rule is

pub broken_row : (letter number total : ℕ) → is_rule_letter letter ≡ true → Keeps (broken_row_pieces letter number total)
unfolding broken_row_pieces
broken_row letter number total is =
    let rule = rule_named (letter ∷ decimal number) in
    either (total == 0) [] (some_row_pieces letter number total rule) refl (some_row letter number total rule is)

pub rows : (findings : List Finding) (number : ℕ) → Keeps (rows_pieces findings number)
unfolding rows_pieces
rows findings zero = refl
rows findings (suc number) =
    let total = count_by (is_of (suc number)) findings in
    both (rows_pieces findings number) (broken_row_pieces of_transactions (suc number) total) (rows findings number) (broken_row of_transactions (suc number) total refl)
