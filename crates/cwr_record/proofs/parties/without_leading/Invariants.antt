use Rattle.std.proofs.Common.{◌≡◌, ◌≤◌, length}
use Rattle.cwr_record.specs.Territory.{without_leading}
use Rattle.cwr_record.proofs.parties.without_leading.Given as goal

abbrev pub invariant-loop-text : goal.invariant-loop-text
invariant-loop-text l = (without_leading l.text ≡ without_leading l.fn.text) × (length l.text ≤ length l.fn.text)

abbrev pub decreases-loop-text : goal.decreases-loop-text
decreases-loop-text l = length l.text
