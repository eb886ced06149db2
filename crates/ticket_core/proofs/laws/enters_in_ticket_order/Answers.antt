use Rattle.ticket_core.proofs.TicketRuns.{entries_in_order}
use Rattle.ticket_core.proofs.laws.enters_in_ticket_order.Goals as goal

pub returns : goal.returns
returns c = entries_in_order
