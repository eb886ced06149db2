use Rattle.std.proofs.Common.{rules}
use Rattle.purvilgo_c.proofs.outcome.purvilgo_outcome_line.Goals as goal

pub returns-in-Ok-clause-line : goal.returns-in-Ok-clause-line
returns-in-Ok-clause-line c = search rules
