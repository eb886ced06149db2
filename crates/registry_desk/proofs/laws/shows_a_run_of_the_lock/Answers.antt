use Rattle.registry_desk.proofs.StepKinds.{opens_as_new, keeps_room}
use Rattle.registry_desk.proofs.DeskRuns.{shows_run, one_inside}
use Rattle.registry_desk.proofs.laws.shows_a_run_of_the_lock.Goals as goal

pub returns-clause-opening : goal.returns-clause-opening
returns-clause-opening c = opens_as_new

pub returns-clause-run : goal.returns-clause-run
returns-clause-run c = shows_run

pub returns-clause-one_inside : goal.returns-clause-one_inside
returns-clause-one_inside c = one_inside c.array_at_most_one_inside.ensures.new

pub returns-clause-room : goal.returns-clause-room
returns-clause-room c = keeps_room
