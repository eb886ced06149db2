use Rattle.std.proofs.Common.{rules}
use Rattle.byte_streams.proofs.spool.Spool.with_capacity.Goals as goal

pub returns-clause-room : goal.returns-clause-room
returns-clause-room g c = search rules
