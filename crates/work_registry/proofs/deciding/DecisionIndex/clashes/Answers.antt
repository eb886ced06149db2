use Rattle.std.proofs.Common.{rules}
use Rattle.work_registry.proofs.deciding.DecisionIndex.clashes.Goals as goal

pub returns-else-is_other_work : goal.returns-else-is_other_work
returns-else-is_other_work g c = search rules
