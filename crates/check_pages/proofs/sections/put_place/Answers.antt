use Rattle.std.proofs.lemmas.Result.{on_ok_weaker}
use Rattle.html_text.specs.Pieces.{text_pieces}
use Rattle.html_text.proofs.lemmas.Chains.{last_fixed, then_fixed, then_number, then_part}
use Rattle.check_pages.specs.Sections.{place_pieces}
use Rattle.check_pages.proofs.sections.put_place.Goals as goal

pub returns : goal.returns
unfolding place_pieces
returns g c =
    on_ok_weaker c.put-3.result
    (λ is.
    (then_fixed _ _ _ _ _ c.in_ok-put.ensures
    (then_number _ _ _ _ _ c.in_ok-put_number.ensures
    (then_fixed _ _ _ _ _ c.in_ok-put-2.ensures
    (then_part _ _ _ (text_pieces c.args.place.now) _ c.in_ok-put_text.ensures
    (last_fixed _ _ _ is))))).is)
    c.put-3.ensures
