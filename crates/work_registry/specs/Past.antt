-- Entries that are known to contracts alone, and not stored: those of a list, and further ones one after another.
use Rattle.std.specs.Prelude.{List, [], ◌∷◌, ◌++◌}
use Rattle.work_registry.specs.declared.past.Entries.{Entries, Listed, After'}
use Rattle.work_registry.specs.EntryValue.{EntryValue, entry_of}

-- the entries, the oldest first; those behind the list are of the opening
abbrev pub entries_of : {A : Type 0} → Entries A → List EntryValue
entries_of (Listed entries) = entries.value.items
entries_of (After' shape before call reply) = entries_of before ++ entry_of 0 call.value reply.value ∷ []
