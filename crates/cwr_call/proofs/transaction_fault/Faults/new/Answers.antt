use Rattle.std.proofs.Common.{rules}
use Rattle.cwr_call.proofs.transaction_fault.Faults.new.Goals as goal

pub returns : goal.returns
returns c = search rules
