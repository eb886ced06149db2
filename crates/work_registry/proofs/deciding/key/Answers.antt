use Rattle.std.proofs.Common.{rules}
use Rattle.work_registry.proofs.deciding.key.Goals as goal

pub returns : goal.returns
returns g c = search rules
