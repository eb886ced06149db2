use Rattle.std.proofs.Common.{rules}
use Rattle.byte_streams.proofs.spool.Spool.new.Goals as goal

pub returns-clause-empty : goal.returns-clause-empty
returns-clause-empty g c = search rules
