use Rattle.std.proofs.Common.{◌≡◌}
use Rattle.std.specs.Prelude.{IfSome}
use Rattle.atomic_file.specs.Names.{Names}
use Rattle.atomic_file.specs.Keeping.{SinceThen, Leads, MayFollow}
use Rattle.atomic_file.proofs.Followers.{SoFar, Following}
use Rattle.atomic_file.proofs.following.name_followers.Given as goal

-- the followers so far were put in place, or refused
abbrev pub invariant-loop-at : goal.invariant-loop-at
invariant-loop-at g l = record {
  told : Leads (SoFar l.at) (g.P.Storage.told l.fn.storage) (g.P.Storage.told l.storage);
  any_moment : IfSome (g.P.Storage.told l.fn.storage) (λ s. SinceThen (g.P.Storage.found l.fn.storage) (g.P.Storage.found l.storage) (λ c. (d : Names) × g.P.Storage.may_find l.fn.storage d × MayFollow s d c));
  after : Following (g.P.Storage.told l.fn.storage) (g.P.Storage.may_find l.fn.storage) (g.P.Storage.may_find l.storage);
  same : g.P.Storage.has_failed l.storage ≡ g.P.Storage.has_failed l.fn.storage;
}
