use Rattle.std.proofs.Common.{◌≡◌, ◌++◌}
use Rattle.html_text.specs.Pieces.{page_text}
use Rattle.check_pages.specs.RuleIndex.{rows_pieces}
use Rattle.check_pages.proofs.facts.put_rows.Given as goal

-- the rows so far are written
abbrev pub invariant-loop-before : goal.invariant-loop-before
invariant-loop-before g l = l.out.items ≡ l.fn.out.items ++ page_text (rows_pieces l.fn.findings l.before)
