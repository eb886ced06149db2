use Rattle.std.proofs.Common.{arith}
use Rattle.std.proofs.lemmas.Grind.{common_steps}
use Rattle.cwr_check.proofs.checking.check_of_fault.Goals as goal

pub returns : goal.returns
returns g c = grind (arith, common_steps)
