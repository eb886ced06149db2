-- The rules that are broken: what each requires, and how often it is broken.
use Rattle.std.specs.Prelude.{ℕ, zero, suc, ◌==◌, List, [], ◌∷◌, ◌++◌, Option, Some, None, if◌then◌else◌}
use Rattle.std.specs.Fmt.{decimal}
use Rattle.std.specs.List.{count_by}
use Rattle.cwr_report.specs.declared.finding.Finding.{Finding}
use Rattle.rule_pages.specs.declared.rule.Rule.{Rule}
use Rattle.rule_pages.specs.Pages.{rule_named, title_of, requirement_of, violation_of, fix_of}
use Rattle.html_text.specs.Contexts.{of_transactions}
use Rattle.html_text.specs.Pieces.{Piece, Fixed, Number, text_pieces}
use Rattle.html_text.specs.declared.fragment.Fragment.TheVariants as fragment
use Rattle.check_pages.specs.Faults.{rule_pieces}
use Rattle.check_pages.specs.Sections.{is_of}

-- the name of a rule, and of its fault
unfoldable pub row_title_pieces : ℕ → ℕ → Rule → List Piece
row_title_pieces letter number rule =
    Fixed fragment.Rule ∷ (rule_pieces letter number ++ Fixed fragment.RuleTitle ∷ (text_pieces (title_of rule) ++ Fixed fragment.RulePage ∷ rule_pieces letter number))

-- what a rule requires, an example that breaks it, and how to fix that
unfoldable pub row_page_pieces : Rule → List Piece
row_page_pieces rule =
    Fixed fragment.RuleRequires
    ∷ (text_pieces (requirement_of rule) ++ Fixed fragment.RuleBroken ∷ (text_pieces (violation_of rule) ++ Fixed fragment.RuleFixed ∷ text_pieces (fix_of rule)))

-- how often a rule is broken, with a link to the first of these faults
unfoldable pub row_count_pieces : ℕ → ℕ → ℕ → List Piece
row_count_pieces letter number total = Fixed fragment.RuleCount ∷ (rule_pieces letter number ++ Fixed fragment.First ∷ Number total ∷ Fixed fragment.RuleEnd ∷ [])

-- the row of a rule, which is broken so often
unfoldable pub row_pieces : ℕ → ℕ → ℕ → Rule → List Piece
row_pieces letter number total rule = row_title_pieces letter number rule ++ (row_page_pieces rule ++ row_count_pieces letter number total)

-- the same, where there is such a rule
unfoldable pub some_row_pieces : ℕ → ℕ → ℕ → Option Rule → List Piece
some_row_pieces letter number total None = []
some_row_pieces letter number total (Some rule) = row_pieces letter number total rule

-- the row of the rule with this letter and number, where it is broken
unfoldable pub broken_row_pieces : ℕ → ℕ → ℕ → List Piece
broken_row_pieces letter number total = if total == 0 then [] else some_row_pieces letter number total (rule_named (letter ∷ decimal number))

-- the rows of the rules of transactions up to this number, where these findings are of them
unfoldable pub rows_pieces : List Finding → ℕ → List Piece
rows_pieces findings zero = []
rows_pieces findings (suc number) = rows_pieces findings number ++ broken_row_pieces of_transactions (suc number) (count_by (is_of (suc number)) findings)
