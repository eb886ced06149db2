use Rattle.ticket_core.proofs.TicketRuns.{after_all-append, answers-append}
use Rattle.ticket_core.proofs.laws.runs_step_by_step.Goals as goal

pub returns-clause-state : goal.returns-clause-state
returns-clause-state c = after_all-append

pub returns-clause-outcomes : goal.returns-clause-outcomes
returns-clause-outcomes c = answers-append
