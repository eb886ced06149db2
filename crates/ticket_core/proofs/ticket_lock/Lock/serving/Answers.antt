use Rattle.std.proofs.Common.{rules}
use Rattle.ticket_core.proofs.ticket_lock.Lock.serving.Goals as goal

pub returns : goal.returns
returns g c = search rules
