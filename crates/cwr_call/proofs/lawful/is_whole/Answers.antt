use Rattle.std.proofs.Common.{rules}
use Rattle.cwr_call.proofs.lawful.is_whole.Goals as goal

pub returns-else-not-is_empty : goal.returns-else-not-is_empty
returns-else-not-is_empty c = search rules
