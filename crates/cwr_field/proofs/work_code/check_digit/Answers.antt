use Rattle.std.proofs.Common.{◌∙◌, arith, ap}
use Rattle.cwr_field.specs.Number.{number_of}
use Rattle.cwr_field.proofs.lemmas.DigitText.{number_of-number_text}
use Rattle.cwr_field.proofs.work_code.check_digit.Goals as goal

pub overflow_sub-result : goal.overflow_sub-result
overflow_sub-result c = let is = c.check_of.ensures c.args.number (ap number_of c.last_digits.ensures ∙ number_of-number_text 9 c.args.number (omega (arith, c.requires))) in omega (arith, is)

pub returns-clause-value : goal.returns-clause-value
returns-clause-value c = let is = c.check_of.ensures c.args.number (ap number_of c.last_digits.ensures ∙ number_of-number_text 9 c.args.number (omega (arith, c.requires))) in omega (arith, is)

pub returns-clause-digit : goal.returns-clause-digit
returns-clause-digit c = let is = c.check_of.ensures c.args.number (ap number_of c.last_digits.ensures ∙ number_of-number_text 9 c.args.number (omega (arith, c.requires))) in omega (arith, is)
