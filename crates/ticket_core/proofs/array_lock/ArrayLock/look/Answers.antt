use Rattle.std.proofs.Common.{arith}
use Rattle.std.proofs.lemmas.Grind.{common_steps}
use Rattle.ticket_core.proofs.lemmas.ArrayStates.{state_enters}
use Rattle.ticket_core.proofs.array_lock.ArrayLock.look.Goals as goal

pub invariant_of-self : goal.invariant_of-self
invariant_of-self g c = state_enters _ _ c.self.invariant c.in-Waiting.ticket (grind (arith, common_steps)) (grind (arith, common_steps))
