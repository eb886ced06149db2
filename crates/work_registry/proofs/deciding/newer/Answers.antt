use Rattle.std.proofs.Common.{rules}
use Rattle.work_registry.proofs.deciding.newer.Goals as goal

pub returns-in-None : goal.returns-in-None
returns-in-None c = search rules
