use Rattle.summary_pages.specs.SummaryPage.{row_pieces, rows_pieces}
use Rattle.summary_pages.proofs.Mapped.{one_more_mapped}
use Rattle.summary_pages.proofs.bars.put_rows.Goals as goal

pub loop-row-preserved : goal.loop-row-preserved
unfolding rows_pieces
loop-row-preserved g c =
    one_more_mapped (row_pieces c.args.whole) (λ row. (row.0.now, row.1)) c.args.rows.now c.loop-row.row-index _ _ _ _ c.loop-row-test.true c.in_ok-put_row.ensures c.loop-row.invariant
