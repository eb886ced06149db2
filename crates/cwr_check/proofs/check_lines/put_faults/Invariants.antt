use Rattle.std.proofs.Common.{◌≡◌, ◌++◌, drop}
use Rattle.std.specs.List.{flat_map}
use Rattle.cwr_check.specs.CheckText.{fault_text}
use Rattle.cwr_check.proofs.check_lines.put_faults.Given as goal

-- what is written and what is left make the whole
abbrev pub invariant-loop-fault : goal.invariant-loop-fault
invariant-loop-fault g l = l.out.items ++ flat_map fault_text (drop l.fault-index l.faults) ≡ l.fn.out.items ++ flat_map fault_text l.faults
