use Rattle.std.proofs.Common.{arith}
use Rattle.std.proofs.lemmas.Grind.{common_steps}
use Rattle.ticket_core.proofs.lemmas.ArrayStates.{leaving_below_next, state_passes}
use Rattle.ticket_core.proofs.array_lock.ArrayLock.pass.Goals as goal

pub overflow_add-ticket : goal.overflow_add-ticket
overflow_add-ticket g c = let below = leaving_below_next _ c.args.place c.self.invariant c.in-Leaving.ticket (grind (arith, common_steps)) in omega arith

pub invariant_of-self : goal.invariant_of-self
invariant_of-self g c = rw c.flag_of.ensures (state_passes _ c.args.place c.self.invariant c.in-Leaving.ticket (grind (arith, common_steps)))
