use Rattle.std.proofs.Common.{arith}
use Rattle.cwr_grammar.proofs.Controls.{block_passes, block_stops}
use Rattle.cwr_grammar.proofs.control_bytes.first_control.Goals as goal

pub returns-then-before : goal.returns-then-before
returns-then-before c = block_stops c.args.text.now c.loop-at.at c.before_control-before.result (omega arith) c.before_control-before.ensures (omega arith) c.loop-at.invariant.1

pub loop-at-preserved : goal.loop-at-preserved
loop-at-preserved c = (omega arith, block_passes c.args.text.now c.loop-at.at c.before_control-before.result (omega arith) c.before_control-before.ensures (omega arith) c.loop-at.invariant.1)
