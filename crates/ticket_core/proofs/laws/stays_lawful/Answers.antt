use Rattle.ticket_core.proofs.lemmas.TicketLawful.{new_lawful}
use Rattle.ticket_core.proofs.TicketRuns.{all_lawful}
use Rattle.ticket_core.specs.TicketSteps.{new_lock}
use Rattle.ticket_core.proofs.laws.stays_lawful.Goals as goal

pub returns-clause-lawful : goal.returns-clause-lawful
returns-clause-lawful c = λ s events law. all_lawful s law events

pub returns-clause-new : goal.returns-clause-new
returns-clause-new c = λ places events. all_lawful (new_lock places) (new_lawful places) events
