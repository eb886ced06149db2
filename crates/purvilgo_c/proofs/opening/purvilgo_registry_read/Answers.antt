use Rattle.std.proofs.Common.{rules}
use Rattle.purvilgo_c.proofs.opening.purvilgo_registry_read.Goals as goal

pub returns-in-Ok-clause-opened : goal.returns-in-Ok-clause-opened
returns-in-Ok-clause-opened c = search rules

pub returns-in-Err-clause-faulty : goal.returns-in-Err-clause-faulty
returns-in-Err-clause-faulty c = search rules
