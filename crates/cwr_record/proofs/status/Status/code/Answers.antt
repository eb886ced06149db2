use Rattle.std.proofs.Common.{rules}
use Rattle.cwr_record.proofs.status.Status.code.Goals as goal

pub returns-in-Conflict : goal.returns-in-Conflict
returns-in-Conflict c = search rules
