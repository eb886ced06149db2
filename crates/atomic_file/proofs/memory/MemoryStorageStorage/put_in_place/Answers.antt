use Rattle.std.proofs.Common.{◌≡◌, ◌∙◌, ap, rules}
use Rattle.atomic_file.specs.Memory.{placing_slot}
use Rattle.atomic_file.proofs.Slots.{Renames-placed}
use Rattle.atomic_file.proofs.memory.MemoryStorageStorage.put_in_place.Goals as goal

pub returns-clause-now : goal.returns-clause-now
returns-clause-now g c =
    let same : c.try_call.new.self.shelf ≡ c.args.self.now.shelf = search rules in
    Renames-placed c.args.self.now.shelf _ (c.place.ensures ∙ ap (λ s. placing_slot s.file) same) (ap (λ s. s.followers) same)
