use Rattle.std.proofs.Common.{refl}
use Rattle.atomic_file.proofs.system.SystemStorage.replace_none.Goals as goal

pub returns : goal.returns
returns g c = refl
