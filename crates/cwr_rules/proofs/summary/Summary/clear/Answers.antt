use Rattle.std.proofs.Common.{rules}
use Rattle.cwr_rules.proofs.summary.Summary.clear.Goals as goal

pub returns : goal.returns
returns g c = record { sums_are = search rules; holds = c.clear.ensures; collected = c.clear-2.ensures }
