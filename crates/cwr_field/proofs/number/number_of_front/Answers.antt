use Rattle.std.proofs.Common.{◌≡◌, ◌∙◌, ℕ, length, take, Some, sym, ap, arith, rules}
use Rattle.std.proofs.lemmas.List.{length-take-le}
use Rattle.cwr_field.proofs.EightDigits.{IsBytes}
use Rattle.cwr_field.proofs.FewDigits.{below}
use Rattle.cwr_field.proofs.FiveDigits.{none_of_front, number_from, parted, some_of_front}
use Rattle.cwr_field.proofs.number.number_of_front.Goals as goal

pub returns-then-lanes-ne0-clause-value : goal.returns-then-lanes-ne0-clause-value
returns-then-lanes-ne0-clause-value c =
    let len : length c.args.bytes ≡ 8 = search rules in
    let fits : IsBytes c.args.bytes = search rules in
    none_of_front c.args.bytes (take 5 c.args.bytes) (parted c.args.bytes c.requires) len fits c.if-lanes-ne0.true

pub returns-clause-value : goal.returns-clause-value
returns-clause-value c =
    let len : length c.args.bytes ≡ 8 = search rules in
    let fits : IsBytes c.args.bytes = search rules in
    let five : length (take 5 c.args.bytes) ≡ 5 = length-take-le 5 c.args.bytes (omega (arith, len)) in
    ap (λ (n : ℕ). Some (number_from n)) c.from_le_bytes-five.ensures
    ∙ some_of_front c.args.bytes (take 5 c.args.bytes) (parted c.args.bytes c.requires) len five fits c.if-lanes-ne0.false

pub returns-clause-bound : goal.returns-clause-bound
returns-clause-bound c =
    let len : length c.args.bytes ≡ 8 = search rules in
    let fits : IsBytes c.args.bytes = search rules in
    let five : length (take 5 c.args.bytes) ≡ 5 = length-take-le 5 c.args.bytes (omega (arith, len)) in
    let is = ap (λ (n : ℕ). Some (number_from n)) c.from_le_bytes-five.ensures
    ∙ some_of_front c.args.bytes (take 5 c.args.bytes) (parted c.args.bytes c.requires) len five fits c.if-lanes-ne0.false in
    below (take 5 c.args.bytes) _ 5 five (sym is)
