use Rattle.std.proofs.Common.{rules}
use Rattle.purvilgo_c.proofs.running.purvilgo_registry_acknowledgement.Goals as goal

pub returns-clause-told : goal.returns-clause-told
returns-clause-told c = search rules
