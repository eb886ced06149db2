use Rattle.std.proofs.Common.{◌≡◌, ◌++◌, drop}
use Rattle.html_text.specs.Pieces.{shown, page_text}
use Rattle.html_text.proofs.pieces.put_cells.Given as goal

-- what is written and what is left make the whole
abbrev pub invariant-loop-byte : goal.invariant-loop-byte
invariant-loop-byte g l = l.out.items ++ page_text (shown (drop l.byte-index l.bytes)) ≡ l.fn.out.items ++ page_text (shown l.fn.bytes)
