use Rattle.std.proofs.Common.{arith}
use Rattle.group_runs.proofs.Grouped.{begun_between, nothing_begun}
use Rattle.group_runs.proofs.groups.Between.begin.Goals as goal

pub returns-in_default-clause-cut_short : goal.returns-in_default-clause-cut_short
returns-in_default-clause-cut_short g c =
    λ stamp. nothing_begun g.R.Source g.W.Sink stamp c.args.book c.args.jobs.items c.new.result.items c.recall.ensures.lawful c.recall.ensures.fits c.new.ensures.items

pub returns-clause-between : goal.returns-clause-between
returns-clause-between g c =
    let size = c.reverse.ensures.len in let count = c.len.ensures in
    λ stamp. begun_between g.R.Source g.W.Sink stamp c.args.book c.args.jobs.items c.in-Ok.ended c.in-Ok.outcomes c.reverse.new.self
    c.recall.ensures.lawful c.recall.ensures.fits c.requires.opening c.requires.works c.reverse.ensures.items c.in-Ok.ensures.jobs_none c.in-Ok.ensures.outcomes_none
    (let room = c.in-Ok.ensures.jobs in omega (arith, room, size, count)) (let room = c.in-Ok.ensures.outcomes in omega (arith, room, size, count))
