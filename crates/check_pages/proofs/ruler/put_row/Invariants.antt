use Rattle.std.proofs.Common.{◌≡◌, ◌+◌, ◌++◌, ◌∷◌, [], drop}
use Rattle.std.specs.List.{flat_map}
use Rattle.html_text.specs.Pieces.{page_text}
use Rattle.check_pages.specs.Rulers.{ruler_row, ruler_ten}
use Rattle.check_pages.proofs.ruler.put_row.Given as goal

-- what is written and what is left make the whole
abbrev pub invariant-loop-ten : goal.invariant-loop-ten
invariant-loop-ten g l = l.out.items ++ page_text (flat_map (λ ten. ruler_ten (l.before + ten)) (drop l.ten-index (10 ∷ 20 ∷ 30 ∷ 40 ∷ 50 ∷ 60 ∷ 70 ∷ 80 ∷ []))) ≡ l.fn.out.items ++ page_text (ruler_row l.fn.before)
