use Rattle.std.proofs.Common.{length}
use Rattle.work_registry.proofs.RegisterFaultTexts.{Read}
use Rattle.work_registry.proofs.register.faults.read_faults.Given as goal

abbrev pub invariant-loop-rest : goal.invariant-loop-rest
invariant-loop-rest g l = Read l.bytes l.rest l.faults.items

abbrev pub decreases-loop-rest : goal.decreases-loop-rest
decreases-loop-rest g l = length l.rest
