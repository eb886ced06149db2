use Rattle.std.proofs.Common.{◌+◌, ◌∷◌, []}
use Rattle.html_text.proofs.lemmas.Pages.{one_more}
use Rattle.check_pages.specs.Rulers.{ruler_ten}
use Rattle.check_pages.proofs.ruler.put_row.Goals as goal

pub loop-ten-preserved : goal.loop-ten-preserved
loop-ten-preserved g c =
    one_more (λ ten. ruler_ten (c.args.before + ten)) (10 ∷ 20 ∷ 30 ∷ 40 ∷ 50 ∷ 60 ∷ 70 ∷ 80 ∷ []) c.loop-ten.ten-index 0 _ _ _ c.loop-ten-test.true c.in_ok-put_ten.ensures c.loop-ten.invariant
