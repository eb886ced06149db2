use Rattle.std.proofs.Common.{◌≡◌, drop, map}
use Rattle.register_tables.specs.Counting.{submitters_noted}
use Rattle.register_tables.proofs.submitters.entries_by_submitter.Given as goal

-- the entries from here on are noted
abbrev pub invariant-loop-index : goal.invariant-loop-index
invariant-loop-index g l = record {
  counts : l.counts.items ≡ submitters_noted (drop l.index l.entries);
  known : l.known.keys ≡ map (λ c. c.submitter) l.counts.items;
}
