use Rattle.std.proofs.Common.{take}
use Rattle.std.specs.List.{AllByRecursion}
use Rattle.cwr_record.specs.Readable.{IsReadable}
use Rattle.cwr_record.proofs.slot.check.Given as goal

-- the fields so far are readable
abbrev pub invariant-loop-slot : goal.invariant-loop-slot
invariant-loop-slot l = AllByRecursion (IsReadable l.line) (take l.slot-index l.slots)
