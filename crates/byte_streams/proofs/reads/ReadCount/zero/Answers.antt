use Rattle.std.proofs.Common.{rules}
use Rattle.byte_streams.proofs.reads.ReadCount.zero.Goals as goal

pub returns : goal.returns
returns c = search rules
