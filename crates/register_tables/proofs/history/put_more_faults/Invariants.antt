use Rattle.std.proofs.Common.{◌≡◌, ◌++◌, drop}
use Rattle.std.specs.List.{flat_map}
use Rattle.register_tables.specs.HistoryTable.{more_fault_text}
use Rattle.register_tables.proofs.history.put_more_faults.Given as goal

-- what is written and what is left make the whole
abbrev pub invariant-loop-fault : goal.invariant-loop-fault
invariant-loop-fault g l = l.out.items ++ flat_map more_fault_text (drop l.fault-index l.faults) ≡ l.fn.out.items ++ flat_map more_fault_text l.fn.faults
