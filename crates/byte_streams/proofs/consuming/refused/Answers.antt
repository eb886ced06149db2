use Rattle.std.proofs.Common.{rules}
use Rattle.byte_streams.proofs.consuming.refused.Goals as goal

pub returns-then-is_memory-clause-answer : goal.returns-then-is_memory-clause-answer
returns-then-is_memory-clause-answer g c = search rules

pub returns-in-Err-clause-answer : goal.returns-in-Err-clause-answer
returns-in-Err-clause-answer g c = c.in-Err.ensures.stopped
