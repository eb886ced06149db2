use Rattle.std.proofs.Common.{rules}
use Rattle.atomic_file.proofs.exclusive.lock.Goals as goal

pub returns : goal.returns
returns g c = search rules
