use Rattle.std.proofs.Common.{◌≡◌, ◌⊎◌, ◌↔◌, true}
use Rattle.atomic_file.specs.Names.{Names}
use Rattle.atomic_file.specs.Memory.{may_be, had_been, lies, left}
use Rattle.atomic_file.proofs.OneByOne.{Crashing, Staying, Undoing}
use Rattle.atomic_file.proofs.memory.MemoryStorage.crash.Given as goal

-- of the names so far each is left or undone, and there to stay
abbrev pub invariant-loop-at : goal.invariant-loop-at
invariant-loop-at g l = record {
  so_far : Crashing l.at l.fn.self.shelf l.self.shelf;
  file : l.self.shelf.file.is_settled ≡ true;
  stayed : Staying l.at l.stayed l.fn.self.shelf l.self.shelf;
  undone : Undoing l.at l.stayed l.fn.self.shelf l.self.shelf;
  under_name : lies l.self.shelf.file ≡ left l.fn.self.shelf.file;
  past : (c : Names) → had_been l.self.past c ↔ (may_be l.fn.self.shelf c ⊎ had_been l.fn.self.past c);
  failed : l.self.failed ≡ l.fn.self.failed;
}
