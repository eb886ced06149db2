use Rattle.std.proofs.Common.{rules}
use Rattle.cwr_verify.proofs.ack_status.work_at.Goals as goal

pub returns-in-Some : goal.returns-in-Some
returns-in-Some c = search rules
