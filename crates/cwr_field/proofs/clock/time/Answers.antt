use Rattle.std.proofs.Common.{◌∙◌, refl, sym, rules}
use Rattle.cwr_field.proofs.Blanks.{number_of-blank}
use Rattle.cwr_field.proofs.clock.time.Goals as goal

pub returns-in_err-whole_bytes : goal.returns-in_err-whole_bytes
returns-in_err-whole_bytes c =
    let none = number_of-blank c.args.text c.in_err-whole_bytes.ensures.none in
    c.from_residual.ensures ∙ sym (rw none refl)

pub invariant_of-result : goal.invariant_of-result
invariant_of-result c = search rules
