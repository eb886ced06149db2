use Rattle.std.proofs.Common.{◌∙◌, ap, ◌++◌, sym, Option}
use Rattle.std.proofs.lemmas.Result.{on_ok_weaker}
use Rattle.cwr_report.specs.declared.file_finding.WrongByte.{WrongByte}
use Rattle.html_text.specs.Pieces.{page_text}
use Rattle.html_text.proofs.lemmas.Chains.{last_fixed, then_fixed, then_number, then_part}
use Rattle.check_pages.specs.Faults.{byte_place_pieces, byte_pieces}
use Rattle.check_pages.proofs.faults.put_wrong_byte.Goals as goal

pub returns : goal.returns
unfolding byte_pieces
returns g c =
    on_ok_weaker c.put-2.result
    (λ is.
    (then_fixed _ _ _ _ _ c.in_ok-put.ensures
    (then_number _ _ _ _ _ c.in_ok-put_number.ensures
    (then_part _ _ _ (byte_place_pieces c.in-Some.wrong.in_line) _ c.in_ok-put_byte_place.ensures
    (then_number _ _ _ _ _ c.in_ok-put_number-2.ensures
    (last_fixed _ _ _ is))))).is ∙ ap (λ (w : Option WrongByte). c.args.out.now.items ++ page_text (byte_pieces w)) (sym c.in-Some.is))
    c.put-2.ensures
