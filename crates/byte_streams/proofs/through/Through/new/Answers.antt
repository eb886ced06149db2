use Rattle.std.proofs.Common.{rules}
use Rattle.byte_streams.proofs.through.Through.new.Goals as goal

pub returns-clause-works : goal.returns-clause-works
returns-clause-works g c = search rules
