use Rattle.std.proofs.Common.{rules}
use Rattle.purvilgo_c.proofs.running.purvilgo_registry_run.Goals as goal

pub returns-in_default-stamp_of-clause-ran : goal.returns-in_default-stamp_of-clause-ran
returns-in_default-stamp_of-clause-ran c = search rules

pub returns-clause-ran : goal.returns-clause-ran
returns-clause-ran c = search rules
