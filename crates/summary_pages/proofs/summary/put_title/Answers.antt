use Rattle.std.proofs.lemmas.Result.{on_ok_weaker}
use Rattle.html_text.specs.FileNames.{file_name}
use Rattle.html_text.proofs.lemmas.Chains.{last_fixed, then_fixed, then_part}
use Rattle.summary_pages.specs.SummaryPage.{summary_style_pieces, summary_title_pieces}
use Rattle.summary_pages.proofs.summary.put_title.Goals as goal

pub returns : goal.returns
unfolding summary_title_pieces
returns g c =
    on_ok_weaker c.put-4.result
    (λ is.
    (then_fixed _ _ _ _ _ c.in_ok-put.ensures
    (then_part _ _ _ (file_name c.args.name.now) _ c.in_ok-put_name.ensures
    (then_fixed _ _ _ _ _ c.in_ok-put-2.ensures
    (then_part _ _ _ summary_style_pieces _ c.in_ok-put_style.ensures
    (then_fixed _ _ _ _ _ c.in_ok-put-3.ensures
    (then_part _ _ _ (file_name c.args.name.now) _ c.in_ok-put_name-2.ensures
    (last_fixed _ _ _ is))))))).is)
    c.put-4.ensures
