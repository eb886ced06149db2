use Rattle.std.proofs.Common.{rules}
use Rattle.atomic_file.proofs.system.SystemStorage.new.Goals as goal

pub returns : goal.returns
returns g c = search rules
