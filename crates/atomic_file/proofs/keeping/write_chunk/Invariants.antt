use Rattle.std.proofs.Common.{◌≡◌, ◌-◌, ◌≤◌, false, length, take}
use Rattle.atomic_file.specs.Names.{drafting}
use Rattle.atomic_file.specs.Looking.{Becomes, Stays}
use Rattle.atomic_file.specs.Keeping.{SinceThen}
use Rattle.atomic_file.proofs.keeping.write_chunk.Given as goal

-- the first bytes went into the draft, and nothing changed under the names
abbrev pub invariant-loop-sent : goal.invariant-loop-sent
invariant-loop-sent g l = record {
  within : l.sent ≤ length l.chunk;
  works : g.P.Storage.has_failed l.storage ≡ false;
  went_out : Becomes (drafting (take l.sent l.chunk)) (g.P.Storage.told l.fn.storage) (g.P.Storage.told l.storage);
  now : Stays (g.P.Storage.may_find l.fn.storage) (g.P.Storage.may_find l.storage);
  time : SinceThen (g.P.Storage.found l.fn.storage) (g.P.Storage.found l.storage) (g.P.Storage.may_find l.fn.storage);
}

abbrev pub decreases-loop-sent : goal.decreases-loop-sent
decreases-loop-sent g l = length l.chunk - l.sent
