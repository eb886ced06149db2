use Rattle.std.proofs.Common.{rules}
use Rattle.ticket_core.proofs.array_lock.ArrayLock.next.Goals as goal

pub returns : goal.returns
returns g c = search rules
