use Rattle.std.proofs.Common.{rules}
use Rattle.byte_streams.proofs.spool.Spool.into_bytes.Goals as goal

pub returns : goal.returns
returns g c = search rules
