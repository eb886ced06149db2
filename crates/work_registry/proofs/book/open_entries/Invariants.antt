use Rattle.std.proofs.Common.{◌≡◌, ◌++◌, map, take, drop}
use Rattle.work_registry.specs.Register.{opened}
use Rattle.work_registry.proofs.book.open_entries.Given as goal

-- those so far are opened, and the others as they were
abbrev pub invariant-loop-entry : goal.invariant-loop-entry
invariant-loop-entry g l = l.history ≡ map opened (take l.entry-index l.initial.history) ++ drop l.entry-index l.initial.history
