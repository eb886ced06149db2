use Rattle.std.proofs.Common.{rules}
use Rattle.cwr_record.proofs.slot.is_readable.Goals as goal

pub returns-else-is_blank-clause-value : goal.returns-else-is_blank-clause-value
returns-else-is_blank-clause-value c = search rules

pub returns-else-is_blank-clause-readable : goal.returns-else-is_blank-clause-readable
returns-else-is_blank-clause-readable c = search rules
