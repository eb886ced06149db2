use Rattle.std.proofs.Common.{rules}
use Rattle.cwr_acknowledgement.proofs.acknowledgement.ack_file.Goals as goal

pub returns-in-Ok : goal.returns-in-Ok
returns-in-Ok g c = search rules
