use Rattle.std.proofs.Common.{arith, ◌≡◌, length}
use Rattle.work_registry.specs.Rows.{rows_of}
use Rattle.work_registry.specs.Works.{work_count}
use Rattle.work_registry.proofs.SoundHistories.{count-le}
use Rattle.work_registry.proofs.deciding.DecisionIndex.works.Goals as goal

pub overflow_cast-result : goal.overflow_cast-result
overflow_cast-result g c =
    let n : length c.self.inside.kept.now.works.items ≡ work_count (rows_of c.self.inside.past.value) = c.self.invariant.2.count in
    omega (arith, n, count-le c.self.inside.past.value, c.self.invariant.1, c.len.ensures, c.self.inside.kept.now.works.ok.0)

pub returns-clause-few : goal.returns-clause-few
returns-clause-few g c =
    let n : length c.self.inside.kept.now.works.items ≡ work_count (rows_of c.self.inside.past.value) = c.self.invariant.2.count in
    omega (arith, n, count-le c.self.inside.past.value, c.self.invariant.1, c.len.ensures, c.self.inside.kept.now.works.ok.0)
