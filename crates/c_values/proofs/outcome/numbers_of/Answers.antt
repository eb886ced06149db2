use Rattle.std.proofs.Common.{rules}
use Rattle.c_values.proofs.outcome.numbers_of.Goals as goal

pub returns-in-Refused : goal.returns-in-Refused
returns-in-Refused c = search rules
