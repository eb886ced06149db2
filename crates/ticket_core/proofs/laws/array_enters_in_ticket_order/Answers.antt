use Rattle.ticket_core.proofs.lemmas.ArrayRuns.{array_entries_in_order}
use Rattle.ticket_core.proofs.laws.array_enters_in_ticket_order.Goals as goal

pub returns : goal.returns
returns c = λ places events few. array_entries_in_order places few events
