use Rattle.std.proofs.Common.{◌≡◌, ◌++◌, drop}
use Rattle.html_text.specs.Pieces.{text_pieces, page_text}
use Rattle.html_text.proofs.pieces.put_bytes.Given as goal

-- what is written and what is left make the whole
abbrev pub invariant-loop-byte : goal.invariant-loop-byte
invariant-loop-byte g l = l.out.items ++ page_text (text_pieces (drop l.byte-index l.text)) ≡ l.fn.out.items ++ page_text (text_pieces l.fn.text)
