use Rattle.std.proofs.Common.{◌≡◌, ◌++◌, drop}
use Rattle.std.specs.List.{flat_map}
use Rattle.html_text.specs.Pieces.{page_text}
use Rattle.summary_pages.specs.SummaryPage.{conflict_pieces}
use Rattle.summary_pages.proofs.summary_tables.put_conflict_rows.Given as goal

-- what is written and what is left make the whole
abbrev pub invariant-loop-one : goal.invariant-loop-one
invariant-loop-one g l = l.out.items ++ page_text (flat_map (conflict_pieces l.whole) (drop l.one-index l.top)) ≡ l.fn.out.items ++ page_text (flat_map (conflict_pieces l.whole) l.fn.top)
