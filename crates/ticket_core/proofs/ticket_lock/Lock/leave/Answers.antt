use Rattle.std.proofs.Common.{arith}
use Rattle.std.proofs.lemmas.Grind.{common_steps}
use Rattle.ticket_core.proofs.lemmas.TicketLawful.{leaves}
use Rattle.ticket_core.proofs.ticket_lock.Lock.leave.Goals as goal

pub invariant_of-self : goal.invariant_of-self
invariant_of-self g c = leaves _ _ c.self.invariant c.in-Inside.field-0 (grind (arith, common_steps))
