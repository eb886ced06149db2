use Rattle.std.proofs.Common.{rules}
use Rattle.purvilgo_c.proofs.checking.purvilgo_check_long.Goals as goal

pub returns-in-Ok-clause-told : goal.returns-in-Ok-clause-told
returns-in-Ok-clause-told c = search rules
