use Rattle.std.proofs.lemmas.Result.{on_ok_weaker}
use Rattle.html_text.specs.Pieces.{text_pieces}
use Rattle.html_text.proofs.lemmas.Chains.{last_part, then_fixed, then_part}
use Rattle.summary_pages.specs.SummaryPage.{heading_pieces}
use Rattle.summary_pages.proofs.summary_tables.put_heading.Goals as goal

pub returns : goal.returns
unfolding heading_pieces
returns g c =
    on_ok_weaker c.put_text-2.result
    (λ is.
    (then_fixed _ _ _ _ _ c.in_ok-put.ensures
    (then_part _ _ _ (text_pieces c.args.heading.now) _ c.in_ok-put_text.ensures
    (then_fixed _ _ _ _ _ c.in_ok-put-2.ensures
    (last_part _ _ (text_pieces c.args.first.now) is)))).is)
    c.put_text-2.ensures
