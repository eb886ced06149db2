use Rattle.std.proofs.Common.{refl}
use Rattle.atomic_file.proofs.system.Follower.new.Goals as goal

pub returns-clause-waits : goal.returns-clause-waits
returns-clause-waits c = refl
