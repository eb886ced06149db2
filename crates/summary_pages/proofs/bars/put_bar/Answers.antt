use Rattle.std.proofs.Common.{◌∙◌, ap, ◌++◌, ℕ}
use Rattle.std.proofs.lemmas.Result.{on_ok_weaker}
use Rattle.std.specs.Fmt.{decimal}
use Rattle.html_text.proofs.lemmas.Chains.{last_fixed, then_fixed, then_number}
use Rattle.summary_pages.specs.SummaryPage.{bar_pieces}
use Rattle.summary_pages.proofs.bars.put_bar.Goals as goal

pub returns : goal.returns
unfolding bar_pieces
returns g c =
    on_ok_weaker c.put-4.result
    (λ is.
    (then_fixed _ _ _ _ _ c.in_ok-put.ensures
    (then_number _ _ _ _ _ c.in_ok-put_number.ensures
    (then_fixed _ _ _ _ _ c.in_ok-put-2.ensures
    (then_number _ _ _ _ _ c.in_ok-put_number-2.ensures
    (then_fixed _ _ _ _ _ c.in_ok-put-3.ensures
    (then_number _ _ _ _ _ (c.in_ok-put_number-3.ensures ∙ ap (λ (n : ℕ). c.put-3.new.out.items ++ decimal n) c.bar_width-width.ensures)
    (last_fixed _ _ _ is))))))).is)
    c.put-4.ensures
