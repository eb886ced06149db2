use Rattle.std.proofs.Common.{rules}
use Rattle.cwr_remarks.proofs.territories.are_excluded.Goals as goal

pub loop-line-init : goal.loop-line-init
loop-line-init c = search rules
