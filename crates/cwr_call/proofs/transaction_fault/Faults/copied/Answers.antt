use Rattle.std.proofs.Common.{rules}
use Rattle.cwr_call.proofs.transaction_fault.Faults.copied.Goals as goal

pub returns : goal.returns
returns g c = search rules
