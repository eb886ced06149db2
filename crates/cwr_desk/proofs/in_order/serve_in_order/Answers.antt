use Rattle.std.proofs.Common.{◌≡◌, false, arith}
use Rattle.std.proofs.lemmas.List.Sorted.{All-permutation}
use Rattle.cwr_engine.specs.Account.{JobAccount}
use Rattle.cwr_engine.proofs.lemmas.FullHistory.{account_full, account_found}
use Rattle.cwr_engine.proofs.lemmas.Turns.{whole_turns}
use Rattle.cwr_desk.proofs.Ordered.{no_items, all_ordered}
use Rattle.cwr_desk.proofs.in_order.serve_in_order.Goals as goal

pub read_group-jobs-requires-clause-ready : goal.read_group-jobs-requires-clause-ready
read_group-jobs-requires-clause-ready g c κs within =
    let works = All-permutation (λ j. (g.R.Source.has_failed j.reader ≡ false) × (g.W.Sink.has_failed j.writer ≡ false)) c.args.jobs.items c.reverse.new.self.items
    c.reverse.ensures.permutation c.requires.works in
    record { works = works; none = c.in-Ok.ensures.read.0; room = c.in-Ok.ensures.read.1 }

pub order_from-run-requires-clause-ready : goal.order_from-run-requires-clause-ready
order_from-run-requires-clause-ready g c κs within =
    let read = c.read_group-jobs.ensures in
    let turned = c.reverse.ensures.len in
    let few = c.requires.few in
    let count = read.count in
    let ended = no_items c.in-Ok.lists.worked_jobs c.in-Ok.ensures.worked_jobs.0 in
    let none = no_items c.in-Ok.lists.outcomes c.in-Ok.ensures.outcomes.0 in
    let room = c.in-Ok.ensures.worked_jobs.1 in
    let outcomes_room = c.in-Ok.ensures.outcomes.1 in
    let length = c.len.ensures in
    record {
      few = omega (arith, few, turned, count, ended);
      counts = omega (arith, ended, none);
      ended_room = omega (arith, turned, count, ended, room, length);
      outcomes_room = omega (arith, turned, count, ended, outcomes_room, length);
      jobs_read = read.front;
      read = read.read;
      works = read.works;
      group_few = read.few;
      last = read.some (omega arith);
      group_room = let r = read.room in let s = c.in-Ok.ensures.read.1 in omega (arith, r, s);
      next_none = c.in-Ok.ensures.next.0;
      next_room = c.in-Ok.ensures.next.1;
      worked_none = c.in-Ok.ensures.worked.0;
      worked_room = c.in-Ok.ensures.worked.1;
    }

pub returns-clause-run : goal.returns-clause-run
returns-clause-run g c =
    let P = JobAccount g.R.Source g.W.Sink c.args.stamp.now false in
    let took = all_ordered g.R.Source g.W.Sink P c.args.book c.order_from-run.result.book c.args.jobs c.reverse.new.self c.read_group-jobs.result.0 c.in-Ok.lists.worked_jobs
    c.order_from-run.result.jobs c.in-Ok.lists.outcomes c.order_from-run.result.outcomes c.in-Ok.lists.read c.read_group-jobs.result.1 c.reverse.ensures.items
    c.read_group-jobs.ensures c.in-Ok.ensures.worked_jobs.0 c.in-Ok.ensures.outcomes.0 (no_items c.in-Ok.lists.worked_jobs c.in-Ok.ensures.worked_jobs.0)
    c.order_from-run.ensures in
    (whole_turns P (λ j k o a b l h r. account_full _ _ _ _ _ _ _ _ _ a b _ o l h r) (λ j k o a l f r. account_found _ _ o l f r) c.args.book c.order_from-run.result.book _ _ _
    c.requires.opening c.recall.ensures.lawful c.recall.ensures.fits took).0

pub returns-clause-in_turn : goal.returns-clause-in_turn
returns-clause-in_turn g c =
    let P = JobAccount g.R.Source g.W.Sink c.args.stamp.now false in
    let took = all_ordered g.R.Source g.W.Sink P c.args.book c.order_from-run.result.book c.args.jobs c.reverse.new.self c.read_group-jobs.result.0 c.in-Ok.lists.worked_jobs
    c.order_from-run.result.jobs c.in-Ok.lists.outcomes c.order_from-run.result.outcomes c.in-Ok.lists.read c.read_group-jobs.result.1 c.reverse.ensures.items
    c.read_group-jobs.ensures c.in-Ok.ensures.worked_jobs.0 c.in-Ok.ensures.outcomes.0 (no_items c.in-Ok.lists.worked_jobs c.in-Ok.ensures.worked_jobs.0)
    c.order_from-run.ensures in
    (whole_turns P (λ j k o a b l h r. account_full _ _ _ _ _ _ _ _ _ a b _ o l h r) (λ j k o a l f r. account_found _ _ o l f r) c.args.book c.order_from-run.result.book _ _ _
    c.requires.opening c.recall.ensures.lawful c.recall.ensures.fits took).1
