use Rattle.std.proofs.Common.{append_assoc, rules}
use Rattle.cwr_remarks.proofs.checks.push_before_fault.Goals as goal

pub returns : goal.returns
returns g c = rw (← append_assoc) (search rules)
