use Rattle.std.proofs.Common.{sym}
use Rattle.cwr_remarks.proofs.territories.are_excluded_after.Goals as goal

pub returns-in-All : goal.returns-in-All
returns-in-All c = rw c.in-Some.is (sym (c.in-All.ensures c.args.after.now))
