use Rattle.std.proofs.Common.{take}
use Rattle.std.specs.List.{AllByRecursion}
use Rattle.work_registry.specs.Register.{IsWholeEntry}
use Rattle.work_registry.proofs.register.chunks.see_entries.Given as goal

abbrev pub invariant-loop-entry : goal.invariant-loop-entry
invariant-loop-entry g l = AllByRecursion IsWholeEntry (take l.entry-index l.entries)
