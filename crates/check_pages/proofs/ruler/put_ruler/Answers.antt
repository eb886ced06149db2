use Rattle.std.proofs.Common.{◌≡◌, ◌∙◌, ℕ, suc, ◌+◌, ◌*◌, List, ◌∷◌, ◌++◌, arith, ap, sym, append_assoc}
use Rattle.html_text.specs.Fragments.{fragment_text}
use Rattle.html_text.specs.Pieces.{Fixed, page_text}
use Rattle.html_text.specs.declared.fragment.Fragment.TheVariants.{RulerRow}
use Rattle.html_text.proofs.lemmas.Pages.{page_append}
use Rattle.check_pages.specs.Rulers.{ruler, ruler_row}
use Rattle.check_pages.proofs.ruler.put_ruler.Goals as goal

one_more : (start out mid new : List ℕ) (row : ℕ) → out ≡ start ++ page_text (ruler row) → mid ≡ out ++ fragment_text RulerRow → new ≡ mid ++ page_text (ruler_row (80 * (row + 1)))
    → new ≡ start ++ page_text (ruler (row + 1))
unfolding ruler
one_more start out mid new row so_far between wrote =
    let next : row + 1 ≡ suc row = omega arith in
    let text = page_text (ruler row) in
    let last = page_text (ruler_row (80 * suc row)) in
    wrote
    ∙ ap (λ (k : ℕ). mid ++ page_text (ruler_row (80 * k))) next
    ∙ ap (λ (l : List ℕ). l ++ last) (between ∙ ap (λ (l : List ℕ). l ++ fragment_text RulerRow) so_far)
    ∙ append_assoc (start ++ text) (fragment_text RulerRow) last
    ∙ append_assoc start text (fragment_text RulerRow ++ last)
    ∙ ap (λ (l : List ℕ). start ++ l) (sym (page_append (ruler row) (Fixed RulerRow ∷ ruler_row (80 * suc row))))
    ∙ ap (λ (k : ℕ). start ++ page_text (ruler k)) (sym next)

pub loop-row-preserved : goal.loop-row-preserved
loop-row-preserved g c = one_more _ _ _ _ c.loop-row.row c.loop-row.invariant c.in_ok-put.ensures c.in_ok-put_row-2.ensures
