use Rattle.std.proofs.lemmas.Result.{on_ok_weaker}
use Rattle.html_text.specs.declared.fragment.Fragment.TheVariants.{StyleMany}
use Rattle.html_text.proofs.lemmas.Chains.{last_fixed, then_part}
use Rattle.check_pages.specs.Boxes.{where_so}
use Rattle.check_pages.specs.Facts.{css_pieces, rulers_pieces, style_pieces}
use Rattle.check_pages.proofs.facts.put_style.Goals as goal

pub returns : goal.returns
unfolding style_pieces
returns g c =
    on_ok_weaker c.put.result
    (λ is.
    (then_part _ _ _ css_pieces _ c.in_ok-put_css.ensures
    (then_part _ _ _ rulers_pieces _ c.in_ok-put_rulers.ensures
    (then_part _ _ _ (where_so c.args.many StyleMany) _ c.in_ok-put_where.ensures
    (last_fixed _ _ _ is)))).is)
    c.put.ensures
