use Rattle.std.proofs.lemmas.Result.{on_ok_weaker}
use Rattle.html_text.specs.Pieces.{text_pieces}
use Rattle.html_text.proofs.lemmas.Chains.{last_fixed, then_part}
use Rattle.check_pages.specs.Faults.{id_pieces, link_pieces, count_pieces, head_pieces}
use Rattle.check_pages.proofs.faults.put_head.Goals as goal

pub returns : goal.returns
unfolding head_pieces
returns g c =
    on_ok_weaker c.put.result
    (λ is.
    (then_part _ _ _ (id_pieces c.args.nth.letter c.args.nth.number c.args.nth.k) _ c.in_ok-put_id.ensures
    (then_part _ _ _ (link_pieces c.args.nth.letter c.args.nth.number) _ c.in_ok-put_link.ensures
    (then_part _ _ _ (text_pieces c.args.text.now) _ c.in_ok-put_text.ensures
    (then_part _ _ _ (count_pieces c.args.nth.letter c.args.nth.number c.args.nth.k c.args.nth.total) _ c.in_ok-put_count.ensures
    (last_fixed _ _ _ is))))).is)
    c.put.ensures
