use Rattle.std.proofs.Common.{arith}
use Rattle.std.proofs.lemmas.Grind.{common_steps}
use Rattle.ticket_core.proofs.lemmas.ArrayStates.{state_shuts}
use Rattle.ticket_core.proofs.array_lock.ArrayLock.shut.Goals as goal

pub invariant_of-self : goal.invariant_of-self
invariant_of-self g c = rw c.flag_of.ensures (state_shuts _ c.args.place c.self.invariant c.in-Inside.ticket (grind (arith, common_steps)))
