use Rattle.std.proofs.Common.{◌≡◌, ◌∙◌, length, sym, rules}
use Rattle.cwr_field.proofs.FewDigits.{behind_zeros}
use Rattle.cwr_field.proofs.number.number_of_twelve.Goals as goal

pub returns-clause-value : goal.returns-clause-value
returns-clause-value c =
    let bytes = c.args.bytes in
    let len : length bytes ≡ 12 = search rules in
    c.number_of_eight.ensures.value ∙ sym (behind_zeros bytes len c.if-ne.ensures)
