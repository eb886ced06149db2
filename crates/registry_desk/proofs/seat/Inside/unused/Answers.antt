use Rattle.std.proofs.Common.{ap}
use Rattle.registry_desk.specs.Standing.{Stay}
use Rattle.registry_desk.proofs.seat.Inside.unused.Goals as goal

pub returns : goal.returns
returns g c = ap (λ (s : Stay). s.unused) c.self.view_is
