use Rattle.std.proofs.Common.{◌≡◌, false, take}
use Rattle.std.specs.List.{list_any}
use Rattle.atomic_file.proofs.memory.has_any_draft.Given as goal

-- none of the names so far has a draft beside it
abbrev pub invariant-loop-at : goal.invariant-loop-at
invariant-loop-at g l = list_any (λ slot. slot.has_draft) (take l.at l.slots) ≡ false
