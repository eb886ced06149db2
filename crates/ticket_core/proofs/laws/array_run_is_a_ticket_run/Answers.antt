use Rattle.ticket_core.proofs.lemmas.ArrayRuns.{reads_as_ticket_run, new_reads_as_ticket_run}
use Rattle.ticket_core.proofs.laws.array_run_is_a_ticket_run.Goals as goal

pub returns-clause-lawful : goal.returns-clause-lawful
returns-clause-lawful c = λ s events law. reads_as_ticket_run s law events

pub returns-clause-new : goal.returns-clause-new
returns-clause-new c = λ places events few. new_reads_as_ticket_run places few events
