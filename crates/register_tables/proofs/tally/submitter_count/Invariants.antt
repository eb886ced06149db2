use Rattle.std.proofs.Common.{drop}
use Rattle.register_tables.specs.Summary.{submitters}
use Rattle.register_tables.proofs.Counts.{AreKnown}
use Rattle.register_tables.proofs.tally.submitter_count.Given as goal

-- the submitters from here on are known
abbrev pub invariant-loop-index : goal.invariant-loop-index
invariant-loop-index g l = AreKnown l.known.keys (submitters (drop l.index l.entries))
