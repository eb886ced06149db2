use Rattle.std.proofs.Common.{◌≡◌, ◌<◌, ℕ, false, get_or}
use Rattle.html_text.specs.Pieces.{is_changed}
use Rattle.html_text.proofs.kept.are_few_kept.Given as goal

-- each byte that was passed stands for itself
abbrev pub invariant-loop-byte : goal.invariant-loop-byte
invariant-loop-byte l = (k : ℕ) → k < l.byte-index → is_changed (get_or l.bytes k 0) ≡ false
