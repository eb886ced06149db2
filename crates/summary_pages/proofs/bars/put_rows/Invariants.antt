use Rattle.std.proofs.Common.{◌≡◌, ◌++◌, drop, map}
use Rattle.html_text.specs.Pieces.{page_text}
use Rattle.summary_pages.specs.SummaryPage.{rows_pieces}
use Rattle.summary_pages.proofs.bars.put_rows.Given as goal

-- what is written and what is left make the whole
abbrev pub invariant-loop-row : goal.invariant-loop-row
invariant-loop-row g l =
    l.out.items ++ page_text (rows_pieces l.whole (map (λ row. (row.0.now, row.1)) (drop l.row-index l.rows)))
    ≡ l.fn.out.items ++ page_text (rows_pieces l.whole (map (λ row. (row.0.now, row.1)) l.fn.rows))
