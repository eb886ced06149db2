use Rattle.std.proofs.Common.{rules}
use Rattle.registry_desk.proofs.desk.all_sleepers.Goals as goal

pub loop-init : goal.loop-init
loop-init g c = search rules
