use Rattle.std.proofs.Common.{rules}
use Rattle.cwr_field.proofs.number.last_digits.Goals as goal

pub returns : goal.returns
returns g c = search rules
