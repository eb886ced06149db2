use Rattle.std.proofs.Common.{◌≡◌, ◌⊎◌, ◌↔◌}
use Rattle.atomic_file.specs.Names.{Names}
use Rattle.atomic_file.specs.Memory.{may_be, had_been}
use Rattle.atomic_file.proofs.OneByOne.{Syncing}
use Rattle.atomic_file.proofs.memory.MemoryStorageStorage.sync_followers.Given as goal

-- the drafts so far are on the disk, or their followers refused
abbrev pub invariant-loop-at : goal.invariant-loop-at
invariant-loop-at g l = record {
  so_far : Syncing l.at l.fn.self.shelf l.self.shelf;
  past : (c : Names) → had_been l.self.past c ↔ (may_be l.fn.self.shelf c ⊎ had_been l.fn.self.past c);
  failed : l.self.failed ≡ l.fn.self.failed;
}
