use Rattle.std.proofs.Common.{arith, rules}
use Rattle.std.proofs.lemmas.Grind.{common_steps}
use Rattle.ticket_core.proofs.ticket_lock.Lock.run.Goals as goal

pub returns-in_err-outcomes-clause-refused : goal.returns-in_err-outcomes-clause-refused
returns-in_err-outcomes-clause-refused g c = search rules

pub loop-event-init : goal.loop-event-init
loop-event-init g c = search rules

pub loop-event-preserved : goal.loop-event-preserved
loop-event-preserved g c = grind (arith, common_steps)
