use Rattle.std.proofs.Common.{◌≡◌, ◌-◌, ◌≤◌, ◌<◌, ℕ, false, length, get_or}
use Rattle.report_json.specs.JsonText.{is_changed}
use Rattle.report_json.proofs.json_runs.are_kept.Given as goal

-- each byte that was passed stands for itself
abbrev pub invariant-loop-at : goal.invariant-loop-at
invariant-loop-at l = (l.at ≤ length l.bytes) × ((k : ℕ) → k < l.at → is_changed (get_or l.bytes k 0) ≡ false)

abbrev pub decreases-loop-at : goal.decreases-loop-at
decreases-loop-at l = length l.bytes - l.at
