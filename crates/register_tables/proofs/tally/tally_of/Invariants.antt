use Rattle.std.proofs.Common.{◌≡◌, drop}
use Rattle.register_tables.specs.Counting.{tallied_all}
use Rattle.register_tables.proofs.tally.tally_of.Given as goal

-- the entries from here on are counted
abbrev pub invariant-loop-index : goal.invariant-loop-index
invariant-loop-index g l = l.tally ≡ tallied_all (drop l.index l.entries)
