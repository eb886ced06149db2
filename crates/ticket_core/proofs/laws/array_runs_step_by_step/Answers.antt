use Rattle.ticket_core.proofs.lemmas.ArrayRuns.{array_after_all-append, array_answers-append}
use Rattle.ticket_core.proofs.laws.array_runs_step_by_step.Goals as goal

pub returns-clause-state : goal.returns-clause-state
returns-clause-state c = array_after_all-append

pub returns-clause-outcomes : goal.returns-clause-outcomes
returns-clause-outcomes c = array_answers-append
