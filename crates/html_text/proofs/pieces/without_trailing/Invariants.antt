use Rattle.std.proofs.Common.{◌≡◌, ◌≤◌, length, take}
use Rattle.cwr_record.specs.Territory.{without_trailing}
use Rattle.html_text.proofs.pieces.without_trailing.Given as goal

-- what is left of the text has the same bytes up to the last one that is not a blank
abbrev pub invariant-loop-end : goal.invariant-loop-end
invariant-loop-end l = (l.end ≤ length l.text) × (without_trailing (take l.end l.text) ≡ without_trailing l.text)

abbrev pub decreases-loop-end : goal.decreases-loop-end
decreases-loop-end l = l.end
