use Rattle.std.proofs.Common.{sym, subst}
use Rattle.ticket_core.specs.TicketLock.{IsLawful}
use Rattle.ticket_core.proofs.lemmas.TicketLawful.{new_lawful}
use Rattle.ticket_core.proofs.ticket_lock.Lock.new.Goals as goal

pub invariant_of-result : goal.invariant_of-result
invariant_of-result g c = subst (λ ps. IsLawful (record { next = 0; serving = 0; phases = ps })) (sym c.loop.invariant.phases) (new_lawful c.loop.counter)
