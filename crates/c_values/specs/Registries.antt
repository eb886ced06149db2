-- What a call does with a registry behind a handle.
use Rattle.std.specs.Prelude.{◌≡◌, ℕ, ◌≤◌, ◌⊎◌, List, [], ◌++◌, length, map, Option, None, IsTrue, IsSomeAnd}
use Rattle.std.specs.List.{AllByRecursion}
use Rattle.cwr_record.specs.Stamp.{StampParts}
use Rattle.work_registry.specs.EntryValue.{EntryValue}
use Rattle.work_registry.specs.History.{IsHistory}
use Rattle.work_registry.specs.Numbers.{max_entries}
use Rattle.work_registry.specs.Replay.{is_opening}
use Rattle.work_registry.specs.Register.{register_text, opened, IsWholeEntry}
use Rattle.c_values.specs.Answers.{done, no_memory}
use Rattle.c_values.specs.Files.{IsAnswered}
use Rattle.c_values.specs.RegistryValue.{RegistryValue}
use Rattle.c_values.specs.declared.outcome.Outcome.{Outcome}

-- a registry without an entry, in which no file was run
abbrev pub empty : RegistryValue
empty = record { history = []; acknowledgement = [] }

-- the handle holds a registry of which P holds, or an allocation failed and it holds none
abbrev pub IsOpened : (RegistryValue → Type 0) → Option RegistryValue → ℕ → Type 0
IsOpened P held status = ((status ≡ done) × IsSomeAnd held P) ⊎ ((status ≡ no_memory) × (held ≡ None))

-- the text is the register of the registry's history, which is one of a registry, all of the opening
pub record IsOf (text : List ℕ) (registry : RegistryValue) : Type 0 where
  pub register : text ≡ register_text registry.history
  pub lawful : IsHistory registry.history
  pub opening : IsTrue (is_opening registry.history)
  pub whole : AllByRecursion IsWholeEntry registry.history
  pub few : length registry.history ≤ max_entries
  -- no file was run yet
  pub unacknowledged : registry.acknowledgement ≡ []

-- what reading its register again requires of a history
pub record IsReadable (history : List EntryValue) : Type 0 where
  pub lawful : IsHistory history
  pub whole : AllByRecursion IsWholeEntry history
  pub few : length history ≤ max_entries

-- a registry that is read from the register of a history has the same entries, as those of the opening
abbrev pub IsAgain : List ℕ → RegistryValue → Type 0
IsAgain text registry = (history : List EntryValue) → IsReadable history → text ≡ register_text history → registry.history ≡ map opened history

-- A file was run: the entries of its calls follow those that were there, as entries of the opening, and its
-- acknowledgement replaces the one before.
pub record IsRun (stamp : StampParts) (file : List ℕ) (numbers : Outcome) (before after : RegistryValue) : Type 0 where
  pub made : List EntryValue
  pub grown : after.history ≡ before.history ++ made
  pub answered : IsAnswered stamp file 0 before.history numbers after.acknowledgement made
