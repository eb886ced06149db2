use Rattle.std.proofs.Common.{◌≡◌, ◌-◌, ◌≤◌, ◌<◌, ℕ, false, get_or}
use Rattle.cwr_field.specs.Scan.{is_sought}
use Rattle.cwr_field.proofs.scan.are_few_free.Given as goal

-- none of the bytes that were passed is looked for
abbrev pub invariant-loop-at : goal.invariant-loop-at
invariant-loop-at l = (l.at ≤ l.end) × ((k : ℕ) → k < l.at → is_sought l.sought (get_or l.bytes k 0) ≡ false)

abbrev pub decreases-loop-at : goal.decreases-loop-at
decreases-loop-at l = l.end - l.at
