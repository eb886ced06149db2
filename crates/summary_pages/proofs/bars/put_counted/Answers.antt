use Rattle.std.proofs.lemmas.Result.{on_ok_weaker}
use Rattle.html_text.proofs.lemmas.Chains.{last_part, then_fixed, then_number}
use Rattle.summary_pages.specs.SummaryPage.{bar_pieces, counted_pieces}
use Rattle.summary_pages.proofs.bars.put_counted.Goals as goal

pub returns : goal.returns
unfolding counted_pieces
returns g c =
    on_ok_weaker c.put_bar.result
    (λ is.
    (then_fixed _ _ _ _ _ c.in_ok-put.ensures
    (then_number _ _ _ _ _ c.in_ok-put_number.ensures
    (last_part _ _ (bar_pieces c.args.number c.args.whole) is))).is)
    c.put_bar.ensures
