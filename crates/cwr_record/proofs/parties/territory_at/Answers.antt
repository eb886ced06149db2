use Rattle.std.proofs.Common.{◌∙◌, ◌≤◌, length, sym, ap, arith}
use Rattle.cwr_field.proofs.lemmas.Spelling.{length-field}
use Rattle.cwr_record.specs.Territory.{territory_of}
use Rattle.cwr_record.proofs.TerritoryDigits.{territory_of_number}
use Rattle.cwr_record.proofs.parties.territory_at.Goals as goal

pub returns-in-Some : goal.returns-in-Some
returns-in-Some c =
    let code = c.bytes-code.result in
    let is = c.bytes-code.ensures ∙ c.field_at.ensures.value in
    let some : 1 ≤ length code = omega (arith, ap length is, length-field c.args.line.now c.args.column.start c.args.column.width, c.requires.width) in
    territory_of_number code c.in-Some.number some (sym c.number_of_four.ensures.value ∙ c.in-Some.is) ∙ ap territory_of is
