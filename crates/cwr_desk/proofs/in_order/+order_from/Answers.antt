use Rattle.std.proofs.Common.{vec_len, false, arith, rules}
use Rattle.std.proofs.lemmas.Grind.{common_steps}
use Rattle.cwr_engine.specs.Account.{JobAccount}
use Rattle.cwr_desk.proofs.Ordered.{found_empty, nothing, none_ordered, more_ordered, ready_behind}
use Rattle.cwr_desk.proofs.in_order.+order_from.Goals as goal

pub returns-then-is_empty : goal.returns-then-is_empty
returns-then-is_empty g t c =
    let P = JobAccount g.R.Source g.W.Sink c.args.stamp.now false in
    let none = found_empty (vec_len c.args.group) c.is_empty.result c.if-is_empty.true c.is_empty.ensures in
    let over = c.requires.ready.last none in
    let g_ok = c.args.group.ok.0 in
    let j_ok = c.args.jobs.ok.0 in
    none_ordered g.R.Source g.W.Sink P c.args.run.book c.args.run.jobs c.args.run.outcomes c.args.group c.args.jobs
    (nothing c.args.group.items (omega (arith, none, g_ok))) (nothing c.args.jobs.items (omega (arith, over, j_ok)))

pub order_from-requires-clause-ready : goal.order_from-requires-clause-ready
order_from-requires-clause-ready g t c κs within =
    let read = c.decide_and_read-jobs.ensures.read in
    let decided = c.decide_and_read-jobs.ensures.decided in
    ready_behind g.R.Source g.W.Sink c.args.run.jobs c.put_behind.new.jobs c.args.run.outcomes c.put_behind.new.outcomes c.args.group c.decide_and_read-jobs.result.1.1
    c.args.jobs c.decide_and_read-jobs.result.0.0 c.args.next c.decide_and_read-jobs.result.0.1 c.args.worked c.put_behind.new.worked
    c.requires.ready read decided.emptied decided.group_room (grind (arith, common_steps)) (grind (arith, common_steps)) c.put_behind.ensures.jobs_room
    c.put_behind.ensures.outcomes_room c.put_behind.ensures.emptied (grind (arith, common_steps))

pub returns : goal.returns
returns g t c =
    let P = JobAccount g.R.Source g.W.Sink c.args.stamp.now false in
    let read = c.decide_and_read-jobs.ensures.read in
    let decided = c.decide_and_read-jobs.ensures.decided in
    more_ordered g.R.Source g.W.Sink P c.args.run.book c.decide_and_read-jobs.result.1.0 c.order_from.result.book c.args.run.jobs c.put_behind.new.jobs c.order_from.result.jobs
    c.args.run.outcomes c.put_behind.new.outcomes c.order_from.result.outcomes c.args.group c.decide_and_read-jobs.result.1.1 c.args.jobs c.decide_and_read-jobs.result.0.0
    c.args.next c.decide_and_read-jobs.result.0.1 c.args.worked c.decide_and_read-jobs.result.1.2 read (search rules) c.put_behind.ensures.jobs c.put_behind.ensures.outcomes
    (grind (arith, common_steps)) c.order_from.ensures
