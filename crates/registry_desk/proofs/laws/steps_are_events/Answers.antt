use Rattle.registry_desk.proofs.StepEvents.{draw_is_event, enter_is_event, wait_is_event, shut_is_event, pass_is_event}
use Rattle.registry_desk.proofs.StepKinds.{each_step_is_event, views_fix_lock}
use Rattle.registry_desk.proofs.laws.steps_are_events.Goals as goal

pub returns-clause-draw : goal.returns-clause-draw
returns-clause-draw c = draw_is_event

pub returns-clause-enter : goal.returns-clause-enter
returns-clause-enter c = enter_is_event

pub returns-clause-wait : goal.returns-clause-wait
returns-clause-wait c = wait_is_event

pub returns-clause-shut : goal.returns-clause-shut
returns-clause-shut c = shut_is_event

pub returns-clause-pass : goal.returns-clause-pass
returns-clause-pass c = pass_is_event

pub returns-clause-each : goal.returns-clause-each
returns-clause-each c = each_step_is_event

pub returns-clause-determined : goal.returns-clause-determined
returns-clause-determined c = views_fix_lock
