use Rattle.std.proofs.Common.{◌-◌, arith, vec_len}
use Rattle.group_runs.proofs.Grouped.{group_works, taken_from}
use Rattle.group_runs.proofs.groups.Between.take_group.Goals as goal

pub returns-in-Ok-clause-taken : goal.returns-in-Ok-clause-taken
returns-in-Ok-clause-taken g c =
    let count = c.in-Ok.ensures.count in let size = c.in-Ok.group.ok.0 in
    λ stamp opening all b. taken_from g.R.Source g.W.Sink stamp opening c.args.self.run.book all c.args.self.run.jobs c.args.self.run.outcomes c.args.self.left c.next_group.new.left
    c.in-Ok.group.items (vec_len c.args.self.left - 63) b c.in-Ok.ensures.group c.in-Ok.ensures.rest (omega (arith, count, size))

pub returns-in-Ok-clause-works : goal.returns-in-Ok-clause-works
returns-in-Ok-clause-works g c =
    group_works g.R.Source g.W.Sink c.args.self.left.items c.in-Ok.group.items (vec_len c.args.self.left - 63) c.requires.between.3.works c.in-Ok.ensures.group
