use Rattle.std.proofs.Common.{rules}
use Rattle.register_tables.proofs.conflicts.ConflictedRanked.is_ahead.Goals as goal

pub returns-else-self-other : goal.returns-else-self-other
returns-else-self-other c = search rules
