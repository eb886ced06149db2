use Rattle.std.proofs.Common.{rules}
use Rattle.byte_streams.proofs.reads.ReadCount.count.Goals as goal

pub returns : goal.returns
returns c = search rules
