use Rattle.std.proofs.Common.{rules}
use Rattle.cwr_acknowledgement.proofs.ack_records.group_header.Goals as goal

pub returns : goal.returns
returns c = search rules
