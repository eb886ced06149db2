use Rattle.std.proofs.Common.{rules}
use Rattle.purvilgo_c.proofs.registers.purvilgo_audit.Goals as goal

pub returns-in-Ok-clause-entries : goal.returns-in-Ok-clause-entries
returns-in-Ok-clause-entries c = search rules
