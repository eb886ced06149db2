use Rattle.std.proofs.Common.{arith}
use Rattle.cwr_acknowledgement.proofs.AckSteps.{count_more, count_within}
use Rattle.cwr_acknowledgement.proofs.acknowledgement.reported_fault_count.Goals as goal

pub overflow_cast-count : goal.overflow_cast-count
overflow_cast-count g c =
    let within = count_within (g.L.Answers.items c.args.answers.now) c.loop-index.index c.fault_count.result c.fault_count.ensures in
    omega (arith, within, c.requires)

pub overflow_add-count : goal.overflow_add-count
overflow_add-count g c =
    let within = count_within (g.L.Answers.items c.args.answers.now) c.loop-index.index c.fault_count.result c.fault_count.ensures in
    omega (arith, within, c.loop-index.invariant, c.requires)

pub loop-index-preserved : goal.loop-index-preserved
loop-index-preserved g c =
    let more = count_more (g.L.Answers.items c.args.answers.now) c.loop-index.index c.fault_count.result c.fault_count.ensures in
    omega (arith, more, c.loop-index.invariant)
