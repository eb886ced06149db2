use Rattle.std.proofs.Common.{◌∙◌, ap, ◌++◌, List, ℕ}
use Rattle.std.proofs.lemmas.Result.{on_ok_weaker}
use Rattle.report_texts.specs.LongText.{name_text}
use Rattle.html_text.specs.Pieces.{page_text, text_pieces}
use Rattle.html_text.proofs.lemmas.Chains.{last_number, then_fixed, then_number, then_part}
use Rattle.check_pages.specs.Faults.{name_pieces}
use Rattle.check_pages.proofs.faults.put_name.Goals as goal

pub returns : goal.returns
unfolding name_pieces
returns g c =
    on_ok_weaker c.put_number-2.result
    (λ is.
    (then_fixed _ _ _ _ _ c.in_ok-put.ensures
    (then_part _ _ _ (text_pieces (name_text c.args.spot.name)) _ (c.in_ok-put_text.ensures ∙ ap (λ (t : List ℕ). c.put.new.out.items ++ page_text (text_pieces t)) c.name_text.ensures)
    (then_fixed _ _ _ _ _ c.in_ok-put-2.ensures
    (then_number _ _ _ _ _ c.in_ok-put_number.ensures
    (then_fixed _ _ _ _ _ c.in_ok-put-3.ensures
    (last_number _ _ _ is)))))).is)
    c.put_number-2.ensures
