use Rattle.std.proofs.Common.{arith}
use Rattle.group_runs.proofs.Grouped.{put_behind, room_behind}
use Rattle.group_runs.proofs.groups.Taken.put_group.Goals as goal

pub with_behind-requires : goal.with_behind-requires
with_behind-requires g c =
    let s = c.requires.served in
    let run = rw c.in-Ok.is at s.6.0 in
    let room = (room_behind g.R.Source g.W.Sink s.0 s.1 s.2 c.in-Ok.worked.book s.3 s.4 c.in-Ok.worked.jobs.items c.in-Ok.worked.outcomes.items c.args.self.jobs c.args.self.outcomes c.args.self.left s.5 run).1 in
    let size = c.in-Ok.worked.outcomes.ok.0 in
    omega (arith, room, size)

pub with_behind-requires-in-Ok : goal.with_behind-requires-in-Ok
with_behind-requires-in-Ok g c =
    let s = c.requires.served in
    let run = rw c.in-Ok.is at s.6.0 in
    let room = (room_behind g.R.Source g.W.Sink s.0 s.1 s.2 c.in-Ok.worked.book s.3 s.4 c.in-Ok.worked.jobs.items c.in-Ok.worked.outcomes.items c.args.self.jobs c.args.self.outcomes c.args.self.left s.5 run).0 in
    let size = c.in-Ok.worked.jobs.ok.0 in
    omega (arith, room, size)

pub returns-in-Ok-clause-between : goal.returns-in-Ok-clause-between
returns-in-Ok-clause-between g c =
    let a = c.with_behind-in-Ok.ensures in let b = c.with_behind.ensures in
    let jobs = c.in-Ok.worked.jobs.ok.0 in let ends = c.in-Ok.worked.outcomes.ok.0 in
    λ stamp opening before all group t s. put_behind g.R.Source g.W.Sink stamp opening before c.in-Ok.worked.book c.reopened-book.result all group
    c.in-Ok.worked.jobs.items c.in-Ok.worked.outcomes.items c.args.self.jobs c.with_behind-in-Ok.result c.args.self.outcomes c.with_behind.result c.args.self.left
    t (rw c.in-Ok.is at s.0) (rw c.in-Ok.is at s.1) c.reopened-book.ensures c.recall.ensures.lawful a.items b.items
    (let l = a.len in omega (arith, l, jobs)) (let l = b.len in omega (arith, l, ends)) a.room b.room
