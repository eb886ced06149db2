use Rattle.std.proofs.Common.{rules}
use Rattle.failing_alloc.proofs.sweep.answered.Goals as goal

pub returns-clause-value : goal.returns-clause-value
returns-clause-value c = search rules

pub returns-clause-right : goal.returns-clause-right
returns-clause-right c = search rules
