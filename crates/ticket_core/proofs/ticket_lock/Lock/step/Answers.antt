use Rattle.std.proofs.Common.{rules}
use Rattle.ticket_core.proofs.ticket_lock.Lock.step.Goals as goal

pub returns-in-Draw-clause-state : goal.returns-in-Draw-clause-state
returns-in-Draw-clause-state g c = search rules

pub returns-in-Draw-clause-outcome : goal.returns-in-Draw-clause-outcome
returns-in-Draw-clause-outcome g c = search rules
