use Rattle.std.proofs.Common.{rules}
use Rattle.cwr_remarks.proofs.checks.remarked_long.Goals as goal

pub returns : goal.returns
returns g c = search rules
