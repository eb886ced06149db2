use Rattle.ticket_core.proofs.lemmas.ArrayRuns.{array_all_lawful, array_lawful_one_inside}
use Rattle.ticket_core.proofs.lemmas.ArrayStates.{new_array_lawful}
use Rattle.ticket_core.specs.ArraySteps.{new_array_lock, array_after_all}
use Rattle.ticket_core.proofs.laws.array_at_most_one_inside.Goals as goal

pub returns-clause-lawful : goal.returns-clause-lawful
returns-clause-lawful c = array_lawful_one_inside

pub returns-clause-new : goal.returns-clause-new
returns-clause-new c = λ places events few.
    array_lawful_one_inside (array_after_all (new_array_lock places) events) (array_all_lawful (new_array_lock places) (new_array_lawful places few) events)
