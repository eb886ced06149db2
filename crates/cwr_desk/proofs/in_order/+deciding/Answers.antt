use Rattle.std.proofs.Common.{◌∙◌, sym, ap, arith, rules}
use Rattle.std.proofs.lemmas.Grind.{common_steps}
use Rattle.cwr_desk.proofs.Ordered.{none_decided, one_decided, first_ready}
use Rattle.cwr_desk.proofs.in_order.+deciding.Goals as goal

pub fn::answer_beside::join+arg3+FnOnce::call_once-join+arg3-requires : goal.fn::answer_beside::join+arg3+FnOnce::call_once-join+arg3-requires
fn::answer_beside::join+arg3+FnOnce::call_once-join+arg3-requires g t c κs within =
    let r = c.requires.1.1.1.1 in
    (search rules, (within.0, (within.1.0, (within.1.1.0, (within.1.1.1, (r.1.0, (r.1.1, (r.1.2, (r.1.3, (r.1.4, (r.1.5, r.0)))))))))))

pub decide_group-returns-in_default : goal.decide_group-returns-in_default
decide_group-returns-in_default g t c =
    none_decided g.R.Source g.W.Sink _ c.args.session c.args.book c.args.group c.pop.new.self c.args.worked c.requires.ready.none (search rules) (search rules) (search rules)
    (let n = c.requires.ready.none in grind (arith, common_steps))

pub decide_group-decide_job-book-requires-clause-read : goal.decide_group-decide_job-book-requires-clause-read
decide_group-decide_job-book-requires-clause-read g t c =
    let first = (first_ready g.R.Source g.W.Sink c.args.session c.args.group c.pop.new.self c.args.worked c.in-Some.read c.requires.ready c.in-Some.ensures.items).1 in
    (first.job, first.read_is)

pub decide_group-answer_beside-ended-requires-clause-writes : goal.decide_group-answer_beside-ended-requires-clause-writes
decide_group-answer_beside-ended-requires-clause-writes g t c κs within =
    let first = (first_ready g.R.Source g.W.Sink c.args.session c.args.group c.pop.new.self c.args.worked c.in-Some.read c.requires.ready c.in-Some.ensures.items).1 in
    let was = c.decide_job-book.ensures.decided first.job first.read_is in
    ap g.W.Sink.has_failed (was.writer ∙ sym first.read_is.writer) ∙ first.writes

pub decide_group-answer_beside-ended-requires-clause-ready : goal.decide_group-answer_beside-ended-requires-clause-ready
decide_group-answer_beside-ended-requires-clause-ready g t c κs within =
    let first = (first_ready g.R.Source g.W.Sink c.args.session c.args.group c.pop.new.self c.args.worked c.in-Some.read c.requires.ready c.in-Some.ensures.items).1 in
    record {
      few = let f = c.requires.ready.few in let n = c.in-Some.ensures.len in omega (arith, f, n);
      jobs = first.rest;
      read = first.others_are;
      none = c.requires.ready.none;
      room = let r = c.requires.ready.room in let n = c.in-Some.ensures.len in omega (arith, r, n);
    }

pub decide_group-returns : goal.decide_group-returns
decide_group-returns g t c =
    one_decided g.R.Source g.W.Sink c.args.stamp.now c.args.session c.args.book c.decide_job-book.result.0 c.answer_beside-ended.result.1.0 c.args.group c.pop.new.self
    c.answer_beside-ended.result.1.1 c.args.worked c.answer_beside-ended.result.1.2 c.push.new.self c.in-Some.read c.decide_job-book.result.1 c.answer_beside-ended.result.0
    c.in-Some.ensures.items (grind (arith, common_steps)) (grind (arith, common_steps)) c.decide_job-book.ensures.limit c.decide_job-book.ensures.decided
    c.answer_beside-ended.ensures.first c.answer_beside-ended.ensures.others c.in-Ok.ensures.items (grind (arith, common_steps)) c.in-Ok.ensures.capacity
