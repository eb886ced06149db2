use Rattle.registry_desk.proofs.WholeTurn.{SeatWaits}
use Rattle.registry_desk.proofs.desk.Desk.enter.Given as goal

abbrev pub invariant-loop : goal.invariant-loop
invariant-loop g l = SeatWaits l.initial.waiting l.waiting
