use Rattle.std.proofs.Common.{◌∙◌, ap, ◌++◌, length}
use Rattle.std.proofs.lemmas.Result.{on_ok_weaker}
use Rattle.html_text.specs.Fragments.{fragment_text}
use Rattle.html_text.proofs.lemmas.Chains.{last_part, then_fixed, then_part}
use Rattle.check_pages.specs.Boxes.{line_shown}
use Rattle.check_pages.specs.Sections.{begin_of, cut_pieces, box_pieces}
use Rattle.check_pages.proofs.sections.put_box.Goals as goal

pub returns : goal.returns
unfolding box_pieces
returns g c =
    on_ok_weaker c.put_cut.result
    (λ is.
    (then_fixed _ _ _ _ _ (c.in_ok-put.ensures ∙ ap (λ f. c.args.out.now.items ++ fragment_text f) (c.begin_of.ensures ∙ ap begin_of c.places.ensures.value))
    (then_part _ _ _ (line_shown c.args.line.now c.args.spots.now c.args.mark) _ c.in_ok-put_line.ensures
    (then_fixed _ _ _ _ _ c.in_ok-put-2.ensures
    (last_part _ _ (cut_pieces (length c.args.line.now)) is)))).is)
    c.put_cut.ensures
