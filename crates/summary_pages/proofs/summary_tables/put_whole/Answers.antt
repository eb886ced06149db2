use Rattle.std.proofs.lemmas.Result.{on_ok_weaker}
use Rattle.html_text.specs.Pieces.{text_pieces}
use Rattle.html_text.proofs.lemmas.Chains.{last_fixed, then_fixed, then_number, then_part}
use Rattle.summary_pages.specs.SummaryPage.{whole_pieces}
use Rattle.summary_pages.proofs.summary_tables.put_whole.Goals as goal

pub returns : goal.returns
unfolding whole_pieces
returns g c =
    on_ok_weaker c.put-3.result
    (λ is.
    (then_fixed _ _ _ _ _ c.in_ok-put.ensures
    (then_part _ _ _ (text_pieces c.args.counted.now) _ c.in_ok-put_text.ensures
    (then_fixed _ _ _ _ _ c.in_ok-put-2.ensures
    (then_number _ _ _ _ _ c.in_ok-put_number.ensures
    (last_fixed _ _ _ is))))).is)
    c.put-3.ensures
