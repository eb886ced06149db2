use Rattle.std.proofs.Common.{rules}
use Rattle.cwr_record.proofs.columns.digits_at.Goals as goal

pub returns-clause-value : goal.returns-clause-value
returns-clause-value c = search rules
