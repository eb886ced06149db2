use Rattle.register_tables.specs.Summary.{conflict_line}
use Rattle.register_tables.proofs.Pieces.{piece_more, piece_end}
use Rattle.register_tables.proofs.summary.put_conflict_lines.Goals as goal

pub loop-one-preserved : goal.loop-one-preserved
loop-one-preserved g c =
    piece_more conflict_line c.args.top.now c.loop-one.one-index _ c.loop-one.page.items c.put_conflict.new.page.items _ c.loop-one-test.true c.loop-one.invariant c.in_ok-put_conflict.ensures

pub returns : goal.returns
returns g c = piece_end conflict_line c.args.top.now c.loop-one.one-index c.loop-one.page.items _ c.loop-one-test.false c.loop-one.invariant
