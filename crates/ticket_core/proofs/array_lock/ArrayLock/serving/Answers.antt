use Rattle.std.proofs.Common.{arith}
use Rattle.std.proofs.lemmas.Grind.{common_steps}
use Rattle.ticket_core.proofs.array_lock.ArrayLock.serving.Goals as goal

pub returns : goal.returns
returns g c = grind (arith, common_steps)
