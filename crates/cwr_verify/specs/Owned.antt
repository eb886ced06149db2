-- Which of many files an entry of a history answers. Each entry has one owner, so that it answers one file at most.
use Rattle.std.specs.Prelude.{ℕ, ◌==◌, List, [], ◌∷◌, if◌then◌else◌}
use Rattle.work_registry.specs.EntryValue.{EntryValue}

-- the entries whose owner is this file, counted from 0, in the order of the history; `owners` has the owner of each
-- entry
abbrev pub owned : ℕ → List ℕ → List EntryValue → List EntryValue
owned file [] history = []
owned file (owner ∷ owners) [] = []
owned file (owner ∷ owners) (e ∷ history) = if owner == file then e ∷ owned file owners history else owned file owners history
