use Rattle.std.proofs.lemmas.Result.{on_ok_weaker}
use Rattle.html_text.proofs.lemmas.Chains.{last_part, then_fixed, then_number}
use Rattle.summary_pages.specs.SummaryPage.{counted_pieces, conflict_pieces}
use Rattle.summary_pages.proofs.bars.put_conflict.Goals as goal

pub returns : goal.returns
unfolding conflict_pieces
returns g c =
    on_ok_weaker c.put_counted.result
    (λ is.
    (then_fixed _ _ _ _ _ c.in_ok-put.ensures
    (then_number _ _ _ _ _ c.in_ok-put_number.ensures
    (last_part _ _ (counted_pieces c.args.one.conflicts c.args.whole) is))).is)
    c.put_counted.ensures
