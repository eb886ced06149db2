use Rattle.std.proofs.Common.{◌≡◌, ◌+◌, ◌-◌, map, filter, take}
use Rattle.std.specs.List.{range_with_len}
use Rattle.register_tables.specs.Summary.{conflicted, conflicts_ahead, has_conflicts, ranked}
use Rattle.register_tables.proofs.conflicts.largest.Given as goal

-- of the works above this one, the ten with the most conflicts
abbrev pub invariant-loop-before : goal.invariant-loop-before
invariant-loop-before g l =
    l.top.items ≡ take 10 (ranked conflicts_ahead (filter has_conflicts (map (conflicted l.book.history) (range_with_len (l.before + 1) (l.last - l.before)))))
