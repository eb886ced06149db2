use Rattle.std.proofs.Common.{rules}
use Rattle.register_tables.proofs.submitters.SubmitterEntriesRanked.is_ahead.Goals as goal

pub returns-then-self-other : goal.returns-then-self-other
returns-then-self-other c = search rules
