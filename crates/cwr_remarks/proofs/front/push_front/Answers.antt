use Rattle.std.proofs.Common.{append_assoc, rules}
use Rattle.cwr_remarks.proofs.front.push_front.Goals as goal

pub returns : goal.returns
returns g c = rw (← append_assoc) (search rules)
