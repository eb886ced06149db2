use Rattle.std.proofs.Common.{arith, ◌≡◌, ◌<◌, ◌≤◌, ◌-◌, length}
use Rattle.std.proofs.lemmas.Grind.{common_steps}
use Rattle.work_registry.specs.Rows.{rows_of}
use Rattle.work_registry.specs.Works.{work_count}
use Rattle.work_registry.proofs.SoundRows.{IsSound}
use Rattle.work_registry.proofs.SoundHistories.{sound, indexed_work-none, has_no_work, has_no_zero}
use Rattle.work_registry.proofs.deciding.DecisionIndex.work.Goals as goal

pub returns-then-work-eq0 : goal.returns-then-work-eq0
returns-then-work-eq0 g c =
    let s : IsSound (rows_of c.args.self.now) = sound c.args.self.now c.recall.ensures.lawful in
    rw c.if-work-eq0.true (indexed_work-none 0 (rows_of c.args.self.now) (has_no_zero _ s))

pub returns-in-None : goal.returns-in-None
returns-in-None g c =
    let s = sound c.self.inside.past.value c.self.invariant.0 in
    let n : length c.self.inside.kept.now.works.items ≡ work_count (rows_of c.self.inside.past.value) = c.self.invariant.2.count in
    let past : length c.deref.result.now ≤ c.args.work - 1 = grind (arith, common_steps, c.in-None.ensures.lookup) in
    let past' : length c.self.inside.kept.now.works.items ≤ c.args.work - 1 = rw c.deref.ensures.value at past in
    let far : work_count (rows_of c.self.inside.past.value) < c.args.work = omega (arith, n, past', c.if-work-eq0.false) in
    rw (← c.self.view_is) (indexed_work-none c.args.work (rows_of c.self.inside.past.value) (has_no_work (rows_of c.self.inside.past.value) c.args.work s far))
