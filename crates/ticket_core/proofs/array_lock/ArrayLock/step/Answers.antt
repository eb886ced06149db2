use Rattle.std.proofs.Common.{rules}
use Rattle.ticket_core.proofs.array_lock.ArrayLock.step.Goals as goal

pub returns-in-Shut-clause-state : goal.returns-in-Shut-clause-state
returns-in-Shut-clause-state g c = search rules

pub returns-in-Shut-clause-outcome : goal.returns-in-Shut-clause-outcome
returns-in-Shut-clause-outcome g c = search rules
