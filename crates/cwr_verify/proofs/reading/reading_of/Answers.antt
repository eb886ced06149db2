use Rattle.std.proofs.Common.{rules}
use Rattle.cwr_verify.proofs.reading.reading_of.Goals as goal

pub returns-in-Err-Fault : goal.returns-in-Err-Fault
returns-in-Err-Fault g c = search rules
