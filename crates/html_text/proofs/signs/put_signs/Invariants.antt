use Rattle.std.proofs.Common.{◌≡◌, ◌++◌, take}
use Rattle.html_text.specs.Pieces.{signs}
use Rattle.html_text.proofs.signs.put_signs.Given as goal

-- what is written and what is left make the whole
abbrev pub invariant-loop-left : goal.invariant-loop-left
invariant-loop-left g l = l.out.items ++ signs l.left (take 2 l.many) ≡ l.fn.out.items ++ signs l.count (take 2 l.many)

abbrev pub decreases-loop-left : goal.decreases-loop-left
decreases-loop-left g l = l.left
