use Rattle.std.proofs.Common.{◌<◌, ℕ, get_or}
use Rattle.html_text.specs.Pieces.{IsSeen}
use Rattle.html_text.proofs.kept.are_seen.Given as goal

-- each byte that was passed is seen
abbrev pub invariant-loop-byte : goal.invariant-loop-byte
invariant-loop-byte l = (k : ℕ) → k < l.byte-index → IsSeen (get_or l.bytes k 0)
