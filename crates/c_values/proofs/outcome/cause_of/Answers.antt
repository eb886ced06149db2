use Rattle.std.proofs.Common.{rules}
use Rattle.c_values.proofs.outcome.cause_of.Goals as goal

pub returns-in-Full : goal.returns-in-Full
returns-in-Full c = search rules
