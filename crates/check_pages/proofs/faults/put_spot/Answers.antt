use Rattle.std.proofs.lemmas.Result.{on_ok_weaker}
use Rattle.html_text.proofs.lemmas.Chains.{last_fixed, then_fixed, then_part}
use Rattle.check_pages.specs.Faults.{name_pieces, standing_pieces, spot_pieces}
use Rattle.check_pages.proofs.faults.put_spot.Goals as goal

pub returns : goal.returns
unfolding spot_pieces
returns g c =
    on_ok_weaker c.put-2.result
    (λ is.
    (then_part _ _ _ (name_pieces c.args.spot) _ c.in_ok-put_name.ensures
    (then_fixed _ _ _ _ _ c.in_ok-put.ensures
    (then_part _ _ _ (standing_pieces c.args.line.now c.args.spot.column) _ c.in_ok-put_standing.ensures
    (last_fixed _ _ _ is)))).is)
    c.put-2.ensures
