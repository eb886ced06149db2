use Rattle.std.proofs.Common.{◌≡◌, ◌++◌}
use Rattle.html_text.specs.Pieces.{page_text}
use Rattle.check_pages.specs.Rulers.{ruler}
use Rattle.check_pages.proofs.ruler.put_ruler.Given as goal

-- the rows so far are written
abbrev pub invariant-loop-row : goal.invariant-loop-row
invariant-loop-row g l = l.out.items ≡ l.fn.out.items ++ page_text (ruler l.row)
