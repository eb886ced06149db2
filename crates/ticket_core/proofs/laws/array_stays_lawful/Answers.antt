use Rattle.ticket_core.proofs.lemmas.ArrayRuns.{array_all_lawful}
use Rattle.ticket_core.proofs.lemmas.ArrayStates.{new_array_lawful}
use Rattle.ticket_core.specs.ArraySteps.{new_array_lock}
use Rattle.ticket_core.proofs.laws.array_stays_lawful.Goals as goal

pub returns-clause-lawful : goal.returns-clause-lawful
returns-clause-lawful c = λ s events law. array_all_lawful s law events

pub returns-clause-new : goal.returns-clause-new
returns-clause-new c = λ places events few. array_all_lawful (new_array_lock places) (new_array_lawful places few) events
