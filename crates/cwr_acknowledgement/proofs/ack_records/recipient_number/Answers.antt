use Rattle.std.proofs.Common.{rules}
use Rattle.cwr_acknowledgement.proofs.ack_records.recipient_number.Goals as goal

pub returns-in-None : goal.returns-in-None
returns-in-None c = search rules
