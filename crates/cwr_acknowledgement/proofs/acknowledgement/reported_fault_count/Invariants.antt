use Rattle.std.proofs.Common.{◌≡◌, take}
use Rattle.cwr_acknowledgement.specs.Acknowledgement.{reported_fault_count}
use Rattle.cwr_acknowledgement.proofs.acknowledgement.reported_fault_count.Given as goal

-- what is told of the items so far
abbrev pub invariant-loop-index : goal.invariant-loop-index
invariant-loop-index g l = l.count ≡ reported_fault_count (take l.index (g.L.Answers.items l.answers))
