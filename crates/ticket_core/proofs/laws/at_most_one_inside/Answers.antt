use Rattle.ticket_core.proofs.lemmas.TicketLawful.{new_lawful}
use Rattle.ticket_core.proofs.TicketRuns.{all_lawful, lawful_one_inside}
use Rattle.ticket_core.specs.TicketSteps.{new_lock, after_all}
use Rattle.ticket_core.proofs.laws.at_most_one_inside.Goals as goal

pub returns-clause-lawful : goal.returns-clause-lawful
returns-clause-lawful c = lawful_one_inside

pub returns-clause-new : goal.returns-clause-new
returns-clause-new c = λ places events. lawful_one_inside (after_all (new_lock places) events) (all_lawful (new_lock places) (new_lawful places) events)
