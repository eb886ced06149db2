use Rattle.std.proofs.Common.{rules}
use Rattle.work_registry.proofs.deciding.DecisionIndex.decide.Goals as goal

pub returns : goal.returns
returns g c = search rules
