use Rattle.std.proofs.lemmas.Result.{on_ok_weaker}
use Rattle.html_text.proofs.lemmas.Chains.{last_fixed, then_fixed}
use Rattle.check_pages.specs.Facts.{css_pieces}
use Rattle.check_pages.proofs.facts.put_css.Goals as goal

pub returns : goal.returns
unfolding css_pieces
returns g c =
    on_ok_weaker c.put-5.result
    (λ is.
    (then_fixed _ _ _ _ _ c.in_ok-put.ensures
    (then_fixed _ _ _ _ _ c.in_ok-put-2.ensures
    (then_fixed _ _ _ _ _ c.in_ok-put-3.ensures
    (then_fixed _ _ _ _ _ c.in_ok-put-4.ensures
    (last_fixed _ _ _ is))))).is)
    c.put-5.ensures
