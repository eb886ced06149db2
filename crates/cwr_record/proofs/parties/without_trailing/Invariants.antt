use Rattle.std.proofs.Common.{◌≡◌, ◌≤◌, length}
use Rattle.cwr_record.specs.Territory.{without_trailing}
use Rattle.cwr_record.proofs.parties.without_trailing.Given as goal

abbrev pub invariant-loop-text : goal.invariant-loop-text
invariant-loop-text l = (without_trailing l.text ≡ without_trailing l.fn.text) × (length l.text ≤ length l.fn.text)

abbrev pub decreases-loop-text : goal.decreases-loop-text
decreases-loop-text l = length l.text
