use Rattle.std.proofs.Common.{rules}
use Rattle.cwr_engine.proofs.engine.answer.Goals as goal

pub returns-in-Ok : goal.returns-in-Ok
returns-in-Ok g c = search rules

pub returns-in-Err-Memory : goal.returns-in-Err-Memory
returns-in-Err-Memory g c = search rules

pub returns-in-Err-Write : goal.returns-in-Err-Write
returns-in-Err-Write g c = search rules
