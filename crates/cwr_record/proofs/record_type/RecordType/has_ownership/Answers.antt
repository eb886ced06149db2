use Rattle.std.proofs.Common.{rules}
use Rattle.cwr_record.proofs.record_type.RecordType.has_ownership.Goals as goal

pub returns-in_default : goal.returns-in_default
returns-in_default c = search rules
