use Rattle.std.proofs.lemmas.Result.{on_ok_weaker}
use Rattle.html_text.specs.Pieces.{shown}
use Rattle.html_text.proofs.lemmas.Chains.{last_part, then_fixed, then_part}
use Rattle.summary_pages.specs.SummaryPage.{counted_pieces, submitter_pieces}
use Rattle.summary_pages.proofs.bars.put_submitter.Goals as goal

pub returns : goal.returns
unfolding submitter_pieces
returns g c =
    on_ok_weaker c.put_counted.result
    (λ is.
    (then_fixed _ _ _ _ _ c.in_ok-put.ensures
    (then_fixed _ _ _ _ _ c.in_ok-put-2.ensures
    (then_part _ _ _ (shown c.args.one.submitter) _ c.in_ok-put_shown.ensures
    (then_fixed _ _ _ _ _ c.in_ok-put-3.ensures
    (last_part _ _ (counted_pieces c.args.one.entries c.args.whole) is))))).is)
    c.put_counted.ensures
