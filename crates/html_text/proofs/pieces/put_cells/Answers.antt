use Rattle.html_text.specs.Pieces.{cell}
use Rattle.html_text.proofs.lemmas.Pages.{one_more}
use Rattle.html_text.proofs.pieces.put_cells.Goals as goal

pub loop-byte-preserved : goal.loop-byte-preserved
loop-byte-preserved g c =
    one_more cell c.args.bytes.now c.loop-byte.byte-index _ _ _ _ c.loop-byte-test.true c.in_ok-put_cell.ensures c.loop-byte.invariant
