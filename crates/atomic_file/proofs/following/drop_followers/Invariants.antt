use Rattle.std.proofs.Common.{◌≡◌}
use Rattle.atomic_file.specs.Looking.{Becomes, Stays}
use Rattle.atomic_file.specs.Keeping.{SinceThen}
use Rattle.atomic_file.proofs.Drops.{dropping_below}
use Rattle.atomic_file.proofs.following.drop_followers.Given as goal

-- nothing changed under the names, and the drafts so far were taken away
abbrev pub invariant-loop-at : goal.invariant-loop-at
invariant-loop-at g l = record {
  told : Becomes (dropping_below l.at) (g.P.Storage.told l.fn.storage) (g.P.Storage.told l.storage);
  now : Stays (g.P.Storage.may_find l.fn.storage) (g.P.Storage.may_find l.storage);
  time : SinceThen (g.P.Storage.found l.fn.storage) (g.P.Storage.found l.storage) (g.P.Storage.may_find l.fn.storage);
  same : g.P.Storage.has_failed l.storage ≡ g.P.Storage.has_failed l.fn.storage;
}
