use Rattle.std.proofs.Common.{arith, ◌∙◌, sym}
use Rattle.work_registry.specs.Rows.{rows_of}
use Rattle.work_registry.proofs.SoundRows.{IsSound}
use Rattle.work_registry.proofs.SoundHistories.{sound}
use Rattle.work_registry.proofs.Decided.{control-fits, change-is}
use Rattle.work_registry.proofs.deciding.DecisionIndex.change.Goals as goal

pub overflow_add-result : goal.overflow_add-result
overflow_add-result g c =
    let s : IsSound (rows_of c.args.self.now) = sound c.args.self.now c.recall.ensures.lawful in
    omega (arith, control-fits 0 (rows_of c.args.self.now) c.args.call.now c.in-Accepted.work c.in-Accepted.version c.args.key.now c.others-others.result c.narrow-control.result s (omega arith) (sym c.requires.decided ∙ c.in-Accepted.is) c.requires.own c.others-others.ensures (c.narrow-control.ensures ∙ c.control.ensures.value))

pub overflow_add-result-2 : goal.overflow_add-result-2
overflow_add-result-2 g c =
    let s : IsSound (rows_of c.args.self.now) = sound c.args.self.now c.recall.ensures.lawful in
    omega (arith, control-fits 1 (rows_of c.args.self.now) c.args.call.now c.in-Accepted.work c.in-Accepted.version c.args.key.now c.others-others.result c.narrow-control.result s (omega arith) (sym c.requires.decided ∙ c.in-Accepted.is) c.requires.own c.others-others.ensures (c.narrow-control.ensures ∙ c.control.ensures.value))

pub overflow_add-result-3 : goal.overflow_add-result-3
overflow_add-result-3 g c =
    let s : IsSound (rows_of c.args.self.now) = sound c.args.self.now c.recall.ensures.lawful in
    omega (arith, control-fits 2 (rows_of c.args.self.now) c.args.call.now c.in-Accepted.work c.in-Accepted.version c.args.key.now c.others-others.result c.narrow-control.result s (omega arith) (sym c.requires.decided ∙ c.in-Accepted.is) c.requires.own c.others-others.ensures (c.narrow-control.ensures ∙ c.control.ensures.value))

pub returns : goal.returns
returns g c =
    rw c.in-Accepted.is (change-is (rows_of c.args.self.now) c.args.call.now c.in-Accepted.work c.in-Accepted.version c.args.key.now c.others-others.result c.narrow-control.result c.newer-iswc.result c.iswc.result c.work.result
    c.requires.own c.others-others.ensures (c.narrow-control.ensures ∙ c.control.ensures.value) c.newer-iswc.ensures c.iswc.ensures.value c.work.ensures)
