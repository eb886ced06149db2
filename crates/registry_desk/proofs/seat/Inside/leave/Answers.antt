use Rattle.std.proofs.Common.{rules}
use Rattle.registry_desk.proofs.seat.Inside.leave.Goals as goal

pub returns-clause-left : goal.returns-clause-left
returns-clause-left g c = search rules

pub returns-clause-steps : goal.returns-clause-steps
returns-clause-steps g c = search rules
