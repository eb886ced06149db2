use Rattle.std.proofs.Common.{rules}
use Rattle.cwr_acknowledgement.proofs.answers.reported_faults.Goals as goal

pub returns-in-Rejected : goal.returns-in-Rejected
returns-in-Rejected c = search rules
