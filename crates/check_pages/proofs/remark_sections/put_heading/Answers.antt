use Rattle.std.proofs.lemmas.Result.{on_ok_weaker}
use Rattle.html_text.proofs.lemmas.Chains.{last_fixed, then_fixed, then_number, then_part}
use Rattle.check_pages.specs.RemarkSections.{type_pieces, remark_heading_pieces}
use Rattle.check_pages.proofs.remark_sections.put_heading.Goals as goal

pub returns : goal.returns
unfolding remark_heading_pieces
returns g c =
    on_ok_weaker c.put-2.result
    (λ is.
    (then_fixed _ _ _ _ _ c.in_ok-put.ensures
    (then_number _ _ _ _ _ c.in_ok-put_number.ensures
    (then_part _ _ _ (type_pieces c.args.remark.now.rtype) _ c.in_ok-put_type.ensures
    (last_fixed _ _ _ is)))).is)
    c.put-2.ensures
