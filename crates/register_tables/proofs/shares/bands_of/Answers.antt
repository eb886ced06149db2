use Rattle.std.proofs.Common.{◌<◌, ◌-◌, ◌^◌, List, arith}
use Rattle.work_registry.specs.Rows.{Row, rows_of}
use Rattle.register_tables.specs.Summary.{left_of}
use Rattle.register_tables.proofs.Counts.{bands_step}
use Rattle.register_tables.proofs.shares.bands_of.Goals as goal

pub loop-before-preserved : goal.loop-before-preserved
loop-before-preserved g c =
    let rows : List Row = rows_of c.args.book.now.history in
    let fits = c.ranges.last.fits in
    let few : c.args.last < 2 ^ 64 - 1 = omega (arith, fits) in
    let step = bands_step (left_of c.args.right rows) c.loop-before.before c.args.last c.loop-before.bands
    c.loop-before-test.true c.loop-before.auto.before few c.loop-before.invariant in
    rw (c.banded-bands.ensures, c.saturating_sub.ensures, c.control_of-control.ensures) step
