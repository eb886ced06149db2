use Rattle.std.proofs.Common.{rules}
use Rattle.cwr_call.proofs.call.Call.kind.Goals as goal

pub returns : goal.returns
returns c = search rules
