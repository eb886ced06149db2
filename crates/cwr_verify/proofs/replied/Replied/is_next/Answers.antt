use Rattle.std.proofs.Common.{rules}
use Rattle.cwr_verify.proofs.replied.Replied.is_next.Goals as goal

pub returns : goal.returns
returns g c = search rules
