use Rattle.std.proofs.Common.{◌≡◌, ◌++◌, drop}
use Rattle.html_text.specs.Pieces.{page_text}
use Rattle.check_pages.specs.Faults.{fields_pieces}
use Rattle.check_pages.proofs.faults.put_fields.Given as goal

-- what is written and what is left make the whole
abbrev pub invariant-loop-spot : goal.invariant-loop-spot
invariant-loop-spot g l = l.out.items ++ page_text (fields_pieces l.line (drop l.spot-index l.spots)) ≡ l.fn.out.items ++ page_text (fields_pieces l.line l.fn.spots)
