use Rattle.std.proofs.Common.{false, arith}
use Rattle.cwr_engine.specs.Account.{JobAccount}
use Rattle.std.proofs.lemmas.Bool.Decides.{nat_tests}
use Rattle.std.proofs.lemmas.Result.{err_from_is_err_and}
use Rattle.group_runs.proofs.lemmas.Ended.{none_left}
use Rattle.cwr_desk.proofs.many_jobs.serve_all.Goals as goal

pub take_group-requires-clause-between : goal.take_group-requires-clause-between
take_group-requires-clause-between g c = (c.args.stamp.now, c.args.book, c.args.jobs.items, c.loop-alloc.invariant)

pub put_group-requires : goal.put_group-requires
put_group-requires g c =
    let served = c.serve_group-served.ensures in record {
      served = (
        c.args.stamp.now,
        c.args.book,
        c.in_ok-taken.group.book,
        c.args.jobs.items,
        c.in_ok-taken.group.jobs.items,
        c.in_ok-taken.ensures.taken c.args.stamp.now c.args.book c.args.jobs.items c.loop-alloc.invariant,
        (served.run, served.in_turn, served.back),
      );
    }

pub returns-in_err-between-2-clause-cut_short : goal.returns-in_err-between-2-clause-cut_short
returns-in_err-between-2-clause-cut_short g c =
    let p = err_from_is_err_and c.from_residual-in_err-between-2.result c.from_residual-in_err-between-2.ensures.1 in
    let served = c.serve_group-served.ensures in
    rw (p.1, p.2) (c.in_err-between-2.ensures.cut_short c.args.stamp.now c.args.book c.in_ok-taken.group.book c.args.jobs.items c.in_ok-taken.group.jobs.items
    (c.in_ok-taken.ensures.taken c.args.stamp.now c.args.book c.args.jobs.items c.loop-alloc.invariant) (served.run, served.in_turn, served.back))

pub loop-alloc-preserved : goal.loop-alloc-preserved
loop-alloc-preserved g c =
    let served = c.serve_group-served.ensures in
    c.in_ok-between-2.ensures.between c.args.stamp.now c.args.book c.in_ok-taken.group.book c.args.jobs.items c.in_ok-taken.group.jobs.items
    (c.in_ok-taken.ensures.taken c.args.stamp.now c.args.book c.args.jobs.items c.loop-alloc.invariant) (served.run, served.in_turn, served.back)

pub returns-clause-run : goal.returns-clause-run
returns-clause-run g c =
    none_left g.R.Source g.W.Sink (JobAccount g.R.Source g.W.Sink c.args.stamp.now false) c.args.book c.loop-alloc.between.run.book c.args.jobs.items c.loop-alloc.between.run.jobs c.loop-alloc.between.run.outcomes
    c.loop-alloc.between.left c.loop-alloc.invariant (let e = c.is_empty.ensures in let t = c.loop-alloc-test.false in grind (arith, nat_tests))

pub returns-clause-opened : goal.returns-clause-opened
returns-clause-opened g c = c.loop-alloc.invariant.opened

pub loop-alloc-init : goal.loop-alloc-init
loop-alloc-init g c = c.in_ok-between.ensures.between c.args.stamp.now
