use Rattle.cwr_grammar.proofs.Controls.{stops_at, stops_after}
use Rattle.cwr_grammar.proofs.control_bytes.control_of_few.Goals as goal

pub returns-else-text-at-ge-MIN_PRINTABLE : goal.returns-else-text-at-ge-MIN_PRINTABLE
returns-else-text-at-ge-MIN_PRINTABLE c = stops_at c.args.text.now c.loop-at.at c.loop-at-test.true c.if-text-at-ge-MIN_PRINTABLE.false c.loop-at.invariant.1

pub returns-after-loop-at : goal.returns-after-loop-at
returns-after-loop-at c = stops_after c.args.text.now c.loop-at.at c.loop-at.invariant.0 c.loop-at-test.false c.loop-at.invariant.1
