use Rattle.std.proofs.Common.{false, vec_len}
use Rattle.cwr_engine.specs.Account.{JobAccount}
use Rattle.group_runs.specs.Standing.{IsBetween}
use Rattle.cwr_desk.proofs.many_jobs.serve_all.Given as goal

abbrev pub invariant-loop-alloc : goal.invariant-loop-alloc
invariant-loop-alloc g l = IsBetween g.R.Source g.W.Sink (JobAccount g.R.Source g.W.Sink l.fn.stamp false)
    l.fn.book l.fn.jobs.items l.between.run.book l.between.run.jobs l.between.run.outcomes l.between.left

abbrev pub decreases-loop-alloc : goal.decreases-loop-alloc
decreases-loop-alloc g l = vec_len l.between.left
