use Rattle.std.proofs.Common.{arith}
use Rattle.std.proofs.lemmas.Grind.{common_steps}
use Rattle.ticket_core.proofs.lemmas.TicketLawful.{draws}
use Rattle.ticket_core.proofs.ticket_lock.Lock.draw.Goals as goal

pub invariant_of-self : goal.invariant_of-self
invariant_of-self g c = draws _ _ c.self.invariant (grind (arith, common_steps)) (grind (arith, common_steps))
