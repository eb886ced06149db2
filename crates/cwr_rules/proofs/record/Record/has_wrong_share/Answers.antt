use Rattle.std.proofs.Common.{rules}
use Rattle.cwr_rules.proofs.record.Record.has_wrong_share.Goals as goal

pub returns-else-is_none-2 : goal.returns-else-is_none-2
returns-else-is_none-2 c = search rules
