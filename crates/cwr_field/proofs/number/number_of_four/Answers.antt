use Rattle.std.proofs.Common.{◌≡◌, ◌∙◌, ℕ, length, Some, sym, ap, rules}
use Rattle.std.specs.Int.{w32, from_le_bytes}
use Rattle.cwr_field.specs.Number.{number_of}
use Rattle.cwr_field.proofs.EightDigits.{IsBytes}
use Rattle.cwr_field.proofs.FewDigits.{bounded}
use Rattle.cwr_field.proofs.FourDigits.{lanes_of_four, above, number_from, none_of_four, some_of_four}
use Rattle.cwr_field.proofs.number.number_of_four.Goals as goal

pub returns-then-from_le_bytes-ne0-clause-value : goal.returns-then-from_le_bytes-ne0-clause-value
returns-then-from_le_bytes-ne0-clause-value c =
    let len : length c.args.bytes ≡ 4 = search rules in
    let fits : IsBytes c.args.bytes = search rules in
    let is : c.from_le_bytes.result ≡ from_le_bytes w32 (above (lanes_of_four c.args.bytes)) = c.from_le_bytes.ensures in
    none_of_four c.args.bytes len fits (λ none. c.if-from_le_bytes-ne0.true (is ∙ none))

-- the number of the lanes is that of the bytes
value : (c : goal.After-from_le_bytes-four) → Some (number_from c.from_le_bytes-four.result) ≡ number_of c.args.bytes
value c =
    let len : length c.args.bytes ≡ 4 = search rules in
    let fits : IsBytes c.args.bytes = search rules in
    let none : from_le_bytes w32 (above (lanes_of_four c.args.bytes)) ≡ 0 = sym c.from_le_bytes.ensures ∙ c.if-from_le_bytes-ne0.false in
    ap (λ (n : ℕ). Some (number_from n)) c.from_le_bytes-four.ensures ∙ some_of_four c.args.bytes len fits none

pub returns-clause-value : goal.returns-clause-value
returns-clause-value c = value c

pub returns-clause-bound : goal.returns-clause-bound
returns-clause-bound c =
    let len : length c.args.bytes ≡ 4 = search rules in
    bounded c.args.bytes (Some (number_from c.from_le_bytes-four.result)) 4 len (value c)
