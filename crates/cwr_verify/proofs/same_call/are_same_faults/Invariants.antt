use Rattle.std.proofs.Common.{◌≡◌, take}
use Rattle.cwr_verify.proofs.same_call.are_same_faults.Given as goal

-- the faults before the place are the same
abbrev pub invariant-loop-place : goal.invariant-loop-place
invariant-loop-place l = take l.place l.one ≡ take l.place l.other
