use Rattle.cwr_report.proofs.Counting.{passed_first}
use Rattle.cwr_report.proofs.bytes_before.bytes_before.Goals as goal

pub loop-preserved : goal.loop-preserved
loop-preserved c =
    let next = passed_first c.args.bytes.now c.loop.rest.now c.after_first-rest.result.now c.args.index c.loop.counter c.loop-test.true
    c.after_first-rest.ensures.rest c.after_first-rest.ensures.inside c.loop.invariant.inside c.loop.invariant.passed
    in record { inside = next.0; passed = next.1 }
