use Rattle.std.proofs.Common.{◌≡◌, ◌∙◌, length, Some, sym, ap, arith}
use Rattle.cwr_field.specs.Number.{number_of}
use Rattle.cwr_field.specs.Share.{share_of}
use Rattle.cwr_field.proofs.FewDigits.{small_share, large_share}
use Rattle.cwr_field.proofs.number.share.Goals as goal

pub returns-in-Some-clause-value : goal.returns-in-Some-clause-value
returns-in-Some-clause-value c =
    let bytes = c.bytes-bytes.result in
    let len : length bytes ≡ 5 = ap length c.bytes-bytes.ensures ∙ c.requires in
    let is : number_of bytes ≡ Some c.in-Some.number = sym c.number_of_five.ensures.value ∙ c.in-Some.is in
    small_share bytes c.in-Some.number len is c.if-number-le-WHOLE.true ∙ ap share_of c.bytes-bytes.ensures

pub returns-in-Some-2-clause-value : goal.returns-in-Some-2-clause-value
returns-in-Some-2-clause-value c =
    let bytes = c.bytes-bytes.result in
    let len : length bytes ≡ 5 = ap length c.bytes-bytes.ensures ∙ c.requires in
    let is : number_of bytes ≡ Some c.in-Some.number = sym c.number_of_five.ensures.value ∙ c.in-Some.is in
    large_share bytes c.in-Some.number len is (omega (arith, c.if-number-le-WHOLE.false)) ∙ ap share_of c.bytes-bytes.ensures
