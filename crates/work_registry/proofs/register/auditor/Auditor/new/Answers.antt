use Rattle.std.proofs.Common.{arith}
use Rattle.work_registry.proofs.register.auditor.Auditor.new.Goals as goal

pub new-requires-clause-most : goal.new-requires-clause-most
new-requires-clause-most g c = omega arith
