use Rattle.std.proofs.Common.{rules}
use Rattle.purvilgo_c.proofs.registry_contents.purvilgo_registry_register.Goals as goal

pub returns-clause-told : goal.returns-clause-told
returns-clause-told c = search rules
