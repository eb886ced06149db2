use Rattle.std.proofs.Common.{◌≡◌, ◌+◌, ◌-◌, map}
use Rattle.std.specs.List.{range_with_len}
use Rattle.work_registry.specs.Rows.{rows_of}
use Rattle.register_tables.specs.Summary.{bands_of, left_of}
use Rattle.register_tables.proofs.shares.bands_of.Given as goal

-- the works above this one are counted
abbrev pub invariant-loop-before : goal.invariant-loop-before
invariant-loop-before g l = l.bands ≡ bands_of (map (left_of l.right (rows_of l.book.history)) (range_with_len (l.before + 1) (l.last - l.before)))
