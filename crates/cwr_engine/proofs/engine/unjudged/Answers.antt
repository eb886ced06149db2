use Rattle.std.proofs.Common.{rules}
use Rattle.cwr_engine.proofs.engine.unjudged.Goals as goal

pub returns-in-Fault : goal.returns-in-Fault
returns-in-Fault c = search rules

pub returns-in-TooLong : goal.returns-in-TooLong
returns-in-TooLong c = search rules
