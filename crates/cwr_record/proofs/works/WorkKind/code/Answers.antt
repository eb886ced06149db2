use Rattle.std.proofs.Common.{rules}
use Rattle.cwr_record.proofs.works.WorkKind.code.Goals as goal

pub returns-in-Rev : goal.returns-in-Rev
returns-in-Rev c = search rules
