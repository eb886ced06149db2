use Rattle.std.proofs.Common.{◌≤◌, ◌-◌, length}
use Rattle.cwr_verify.proofs.Turns.{Refuse}
use Rattle.cwr_verify.proofs.wanted.first_of.Given as goal

-- none of the files before this one can have made the entry
abbrev pub invariant-loop-file : goal.invariant-loop-file
invariant-loop-file g l = record { within : l.from ≤ length l.wanted; refuse : Refuse l.wanted l.entry l.from }

abbrev pub decreases-loop-file : goal.decreases-loop-file
decreases-loop-file g l = length l.wanted - l.from
