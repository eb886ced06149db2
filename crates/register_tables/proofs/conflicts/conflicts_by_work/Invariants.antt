use Rattle.std.proofs.Common.{drop}
use Rattle.register_tables.specs.Counting.{AreCounted}
use Rattle.register_tables.proofs.conflicts.conflicts_by_work.Given as goal

-- the conflicts from here on are counted
abbrev pub invariant-loop-index : goal.invariant-loop-index
invariant-loop-index g l = AreCounted l.last (drop l.index l.entries) l.counts.items
