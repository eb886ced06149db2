use Rattle.std.proofs.Common.{◌∙◌, sym}
use Rattle.cwr_field.proofs.Blanks.{number_of-blank}
use Rattle.cwr_field.proofs.number.number_of_others.Goals as goal

pub returns-in_err-whole-clause-value : goal.returns-in_err-whole-clause-value
returns-in_err-whole-clause-value c = c.from_residual.ensures ∙ sym (number_of-blank c.args.text (c.in_err-whole.ensures).none)
