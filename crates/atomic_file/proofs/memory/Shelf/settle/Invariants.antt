use Rattle.std.proofs.Common.{◌≡◌, ◌<◌, ℕ, true}
use Rattle.atomic_file.specs.Memory.{IsSettled, state_of}
use Rattle.atomic_file.proofs.memory.Shelf.settle.Given as goal

-- what is told is as it was, and the names so far are there to stay
abbrev pub invariant-loop-at : goal.invariant-loop-at
invariant-loop-at g l = record {
  told : state_of l.self ≡ state_of l.fn.self;
  file : l.self.file.is_settled ≡ true;
  each : (k : ℕ) → k < l.at → IsSettled k l.self;
}
