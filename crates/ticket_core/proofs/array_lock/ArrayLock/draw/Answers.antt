use Rattle.std.proofs.Common.{arith}
use Rattle.std.proofs.lemmas.Grind.{common_steps}
use Rattle.ticket_core.proofs.lemmas.ArrayStates.{state_draws}
use Rattle.ticket_core.proofs.array_lock.ArrayLock.draw.Goals as goal

pub invariant_of-self : goal.invariant_of-self
invariant_of-self g c = state_draws _ _ c.self.invariant (grind (arith, common_steps)) (grind (arith, common_steps))
