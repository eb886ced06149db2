use Rattle.std.proofs.lemmas.Result.{on_ok_weaker}
use Rattle.html_text.proofs.lemmas.Chains.{last_fixed, then_fixed, then_part}
use Rattle.check_pages.specs.Facts.{rulers_pieces}
use Rattle.check_pages.specs.Rulers.{ruler}
use Rattle.check_pages.proofs.facts.put_rulers.Goals as goal

pub returns : goal.returns
unfolding rulers_pieces
returns g c =
    on_ok_weaker c.put-2.result
    (λ is.
    (then_part _ _ _ (ruler 2) _ c.in_ok-put_ruler.ensures
    (then_fixed _ _ _ _ _ c.in_ok-put.ensures
    (then_part _ _ _ (ruler 51) _ c.in_ok-put_ruler-2.ensures
    (last_fixed _ _ _ is)))).is)
    c.put-2.ensures
