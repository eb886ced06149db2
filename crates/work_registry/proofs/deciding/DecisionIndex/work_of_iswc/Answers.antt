use Rattle.std.proofs.Common.{arith}
use Rattle.std.proofs.lemmas.Grind.{common_steps}
use Rattle.work_registry.proofs.deciding.DecisionIndex.work_of_iswc.Goals as goal

pub returns : goal.returns
returns g c = grind (arith, common_steps)
