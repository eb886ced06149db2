use Rattle.std.proofs.Common.{◌≡◌, false, arith, rules}
use Rattle.std.proofs.lemmas.Grind.{common_steps}
use Rattle.cwr_engine.proofs.lemmas.Turns.{last_holds, rest_holds}
use Rattle.cwr_desk.proofs.Ordered.{no_items, none_read, one_read}
use Rattle.cwr_desk.proofs.in_order.+reading.Goals as goal

pub fn::read_beside::join+arg3+FnOnce::call_once-join+arg3-requires : goal.fn::read_beside::join+arg3+FnOnce::call_once-join+arg3-requires
fn::read_beside::join+arg3+FnOnce::call_once-join+arg3-requires g t c κs within =
    let r = c.requires.1.1.1.1 in
    (search rules, (within.0, (within.1.0, (within.1.1.0, (within.1.1.1, (r.1.0, (r.1.1, (r.1.2, (r.1.3, (r.1.4, (r.1.5, r.0)))))))))))

pub read_beside-returns-then-min-eq0-clause-others : goal.read_beside-returns-then-min-eq0-clause-others
read_beside-returns-then-min-eq0-clause-others g t c =
    none_read g.R.Source g.W.Sink c.args.most c.args.jobs c.args.group c.requires.ready (no_items c.args.group c.requires.ready.none)
    (λ some. grind (arith, common_steps))

pub read_group-returns-then-most-eq0 : goal.read_group-returns-then-most-eq0
read_group-returns-then-most-eq0 g t c =
    none_read g.R.Source g.W.Sink c.args.most c.args.jobs c.args.group c.requires.ready (no_items c.args.group c.requires.ready.none)
    (λ some. absurd (let none = c.if-most-eq0.true in omega (arith, some, none)))

pub read_group-read_beside-read-requires-clause-reads : goal.read_group-read_beside-read-requires-clause-reads
read_group-read_beside-read-requires-clause-reads g t c κs within =
    (last_holds (λ j. (g.R.Source.has_failed j.reader ≡ false) × (g.W.Sink.has_failed j.writer ≡ false)) c.args.jobs.items c.pop.new.self.items c.in-Some.job
    c.requires.ready.works c.in-Some.ensures.items).0

pub read_group-read_beside-read-requires-clause-ready : goal.read_group-read_beside-read-requires-clause-ready
read_group-read_beside-read-requires-clause-ready g t c κs within = record {
  works =
      rest_holds (λ j. (g.R.Source.has_failed j.reader ≡ false) × (g.W.Sink.has_failed j.writer ≡ false)) c.args.jobs.items c.pop.new.self.items c.in-Some.job
      c.requires.ready.works c.in-Some.ensures.items;
  none = c.requires.ready.none;
  room = let r = c.requires.ready.room in omega (arith, r);
}

pub read_group-returns : goal.read_group-returns
read_group-returns g t c =
    let works = last_holds (λ j. (g.R.Source.has_failed j.reader ≡ false) × (g.W.Sink.has_failed j.writer ≡ false)) c.args.jobs.items c.pop.new.self.items c.in-Some.job
    c.requires.ready.works c.in-Some.ensures.items in
    one_read g.R.Source g.W.Sink c.args.most _ c.args.jobs c.pop.new.self c.read_beside-read.result.1.0 c.args.group c.read_beside-read.result.1.1 c.push.new.self c.in-Some.job
    c.read_beside-read.result.0 (grind (arith, common_steps)) c.in-Some.ensures.items (grind (arith, common_steps)) c.read_beside-read.ensures.first works.1 c.read_beside-read.ensures.others
    c.in-Ok.ensures.items (grind (arith, common_steps)) c.in-Ok.ensures.capacity
