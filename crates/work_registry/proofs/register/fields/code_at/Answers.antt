use Rattle.std.proofs.Common.{rules}
use Rattle.work_registry.proofs.register.fields.code_at.Goals as goal

pub returns-in-Wrong-clause-value : goal.returns-in-Wrong-clause-value
returns-in-Wrong-clause-value c = search rules
