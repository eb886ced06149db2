use Rattle.std.proofs.lemmas.Result.{on_ok_weaker}
use Rattle.html_text.specs.Pieces.{text_pieces}
use Rattle.html_text.proofs.lemmas.Chains.{last_part, then_fixed, then_part}
use Rattle.summary_pages.specs.SummaryPage.{counted_pieces, row_pieces}
use Rattle.summary_pages.proofs.bars.put_row.Goals as goal

pub returns : goal.returns
unfolding row_pieces
returns g c =
    on_ok_weaker c.put_counted.result
    (λ is.
    (then_fixed _ _ _ _ _ c.in_ok-put.ensures
    (then_part _ _ _ (text_pieces c.args.name.now) _ c.in_ok-put_text.ensures
    (last_part _ _ (counted_pieces c.args.number c.args.whole) is))).is)
    c.put_counted.ensures
