use Rattle.std.proofs.Common.{take}
use Rattle.std.specs.List.{AllByRecursion}
use Rattle.work_registry.specs.RegisterLine.{IsTyped}
use Rattle.work_registry.proofs.register.chunks.see_faults.Given as goal

abbrev pub invariant-loop-fault : goal.invariant-loop-fault
invariant-loop-fault l = AllByRecursion IsTyped (take l.fault-index l.faults)
