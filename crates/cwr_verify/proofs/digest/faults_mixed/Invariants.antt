use Rattle.std.proofs.Common.{◌≡◌, fold, take}
use Rattle.cwr_verify.specs.Digest.{fault_mixed}
use Rattle.cwr_verify.proofs.digest.faults_mixed.Given as goal

-- the faults so far are mixed
abbrev pub invariant-loop-fault : goal.invariant-loop-fault
invariant-loop-fault l = l.all ≡ fold fault_mixed l.initial.all (take l.fault-index l.faults)
