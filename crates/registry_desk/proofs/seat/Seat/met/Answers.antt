use Rattle.std.proofs.Common.{rules}
use Rattle.registry_desk.proofs.seat.Seat.met.Goals as goal

pub returns : goal.returns
returns g c = search rules
