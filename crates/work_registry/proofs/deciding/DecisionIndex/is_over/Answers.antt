use Rattle.std.proofs.Common.{arith}
use Rattle.work_registry.specs.Rows.{rows_of}
use Rattle.work_registry.proofs.SoundRows.{IsSound}
use Rattle.work_registry.proofs.SoundHistories.{sound}
use Rattle.work_registry.proofs.OtherKeys.{others-at}
use Rattle.work_registry.proofs.deciding.DecisionIndex.is_over.Goals as goal

pub are_over_whole-requires-clause-performing : goal.are_over_whole-requires-clause-performing
are_over_whole-requires-clause-performing g c =
    let s : IsSound (rows_of c.args.self.now) = sound c.args.self.now c.recall.ensures.lawful in
    others-at 0 c.args.work c.args.key.now (rows_of c.args.self.now) c.others.result c.others.ensures s (omega arith)

pub are_over_whole-requires-clause-mechanical : goal.are_over_whole-requires-clause-mechanical
are_over_whole-requires-clause-mechanical g c =
    let s : IsSound (rows_of c.args.self.now) = sound c.args.self.now c.recall.ensures.lawful in
    others-at 1 c.args.work c.args.key.now (rows_of c.args.self.now) c.others.result c.others.ensures s (omega arith)

pub are_over_whole-requires-clause-synchronization : goal.are_over_whole-requires-clause-synchronization
are_over_whole-requires-clause-synchronization g c =
    let s : IsSound (rows_of c.args.self.now) = sound c.args.self.now c.recall.ensures.lawful in
    others-at 2 c.args.work c.args.key.now (rows_of c.args.self.now) c.others.result c.others.ensures s (omega arith)
