use Rattle.std.proofs.Common.{rules}
use Rattle.work_registry.proofs.register.writing.head_for.Goals as goal

pub returns-clause-value : goal.returns-clause-value
returns-clause-value g c = search rules
