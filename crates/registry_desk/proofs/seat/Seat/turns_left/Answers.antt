use Rattle.std.proofs.Common.{rules}
use Rattle.registry_desk.proofs.seat.Seat.turns_left.Goals as goal

pub returns : goal.returns
returns g c = search rules
