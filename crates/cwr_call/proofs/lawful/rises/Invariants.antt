use Rattle.std.proofs.Common.{◌≡◌, drop}
use Rattle.cwr_call.specs.Lawful.{rises, rises_from}
use Rattle.cwr_call.proofs.lawful.rises.Given as goal

abbrev pub invariant-loop-fault : goal.invariant-loop-fault
invariant-loop-fault l = rises_from l.last (drop l.fault-index l.fault-items) ≡ rises l.faults
