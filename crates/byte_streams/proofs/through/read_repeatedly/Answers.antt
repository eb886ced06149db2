use Rattle.std.proofs.Common.{rules}
use Rattle.byte_streams.proofs.through.read_repeatedly.Goals as goal

pub loop-preserved : goal.loop-preserved
loop-preserved g c = search rules
