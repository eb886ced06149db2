use Rattle.std.proofs.Common.{rules}
use Rattle.cwr_field.proofs.number.put_decimal.Goals as goal

pub returns-clause-ok : goal.returns-clause-ok
returns-clause-ok g c = search rules
