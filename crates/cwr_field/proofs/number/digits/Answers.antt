use Rattle.std.proofs.Common.{◌∙◌, sym}
use Rattle.cwr_field.proofs.Blanks.{number_of-blank}
use Rattle.cwr_field.proofs.number.digits.Goals as goal

pub returns-in_err-whole_bytes-in-5-clause-value : goal.returns-in_err-whole_bytes-in-5-clause-value
returns-in_err-whole_bytes-in-5-clause-value c = c.from_residual.ensures ∙ sym (number_of-blank c.args.text c.in_err-whole_bytes-in-5.ensures.none)

pub returns-in_err-whole_bytes-in-8-clause-value : goal.returns-in_err-whole_bytes-in-8-clause-value
returns-in_err-whole_bytes-in-8-clause-value c = c.from_residual-in_err-whole_bytes-in-8.ensures ∙ sym (number_of-blank c.args.text c.in_err-whole_bytes-in-8.ensures.none)

pub returns-in_err-whole_bytes-in-9-clause-value : goal.returns-in_err-whole_bytes-in-9-clause-value
returns-in_err-whole_bytes-in-9-clause-value c = c.from_residual-in_err-whole_bytes-in-9.ensures ∙ sym (number_of-blank c.args.text c.in_err-whole_bytes-in-9.ensures.none)

pub returns-in_err-whole_bytes-in-12-clause-value : goal.returns-in_err-whole_bytes-in-12-clause-value
returns-in_err-whole_bytes-in-12-clause-value c = c.from_residual-in_err-whole_bytes-in-12.ensures ∙ sym (number_of-blank c.args.text c.in_err-whole_bytes-in-12.ensures.none)
