use Rattle.std.proofs.Common.{◌≡◌, ◌++◌, drop, length, vec_len}
use Rattle.std.specs.Prelude.{vec_capacity}
use Rattle.ticket_core.specs.ArraySteps.{array_after_all, array_answers}
use Rattle.ticket_core.proofs.array_lock.ArrayLock.run.Given as goal

-- what the events that are left do now is the rest of what all of them do
abbrev pub invariant-loop-event : goal.invariant-loop-event
invariant-loop-event g l = record {
  room : vec_capacity l.outcomes ≡ length l.events;
  len : vec_len l.outcomes ≡ l.event-index;
  state : array_after_all l.fn.self l.events ≡ array_after_all l.self (drop l.event-index l.events);
  outcomes : array_answers l.fn.self l.events ≡ l.outcomes.items ++ array_answers l.self (drop l.event-index l.events);
}
