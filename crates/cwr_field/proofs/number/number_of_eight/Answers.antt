use Rattle.std.proofs.Common.{◌≡◌, length, sym, rules}
use Rattle.cwr_field.proofs.EightDigits.{IsBytes, none_of, some_of, bound_of, fits_less}
use Rattle.cwr_field.proofs.number.number_of_eight.Goals as goal

pub returns-then-digits-ne0-clause-value : goal.returns-then-digits-ne0-clause-value
returns-then-digits-ne0-clause-value c =
    let len : length c.args.bytes ≡ 8 = search rules in
    let fits : IsBytes c.args.bytes = search rules in
    sym (none_of c.args.bytes len fits c.if-digits-ne0.true)

pub overflow_cast-parts : goal.overflow_cast-parts
overflow_cast-parts c = fits_less _ _

pub returns-clause-value : goal.returns-clause-value
returns-clause-value c =
    let len : length c.args.bytes ≡ 8 = search rules in
    let fits : IsBytes c.args.bytes = search rules in
    some_of c.args.bytes len fits c.if-digits-ne0.false

pub returns-clause-bound : goal.returns-clause-bound
returns-clause-bound c =
    let len : length c.args.bytes ≡ 8 = search rules in
    let fits : IsBytes c.args.bytes = search rules in
    bound_of c.args.bytes len fits c.if-digits-ne0.false
