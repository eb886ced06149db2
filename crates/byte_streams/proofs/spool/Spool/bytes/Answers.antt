use Rattle.std.proofs.Common.{rules}
use Rattle.byte_streams.proofs.spool.Spool.bytes.Goals as goal

pub returns : goal.returns
returns g c = search rules
