use Rattle.std.proofs.Common.{rules}
use Rattle.atomic_file.proofs.memory.has_any_draft.Goals as goal

pub loop-at-init : goal.loop-at-init
loop-at-init g c = search rules
