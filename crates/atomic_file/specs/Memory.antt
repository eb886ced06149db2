-- What lies under the names of a `Storage` in memory, and what a crash leaves there.
use Rattle.std.specs.Prelude.{◌≡◌, ◌⊎◌, ◌||◌, ◌&&◌, ℕ, Bool, true, false, List, Option, None, Some, Vec, length, map, get_or, slice_set, if◌then◌else◌}
use Rattle.std.specs.List.{list_any}
use Rattle.atomic_file.specs.declared.memory.MemoryFile.{MemoryFile}
use Rattle.atomic_file.specs.declared.memory.Shelf.{Shelf}
use Rattle.atomic_file.specs.declared.memory.Past.{Past, Begun, After'}
use Rattle.atomic_file.specs.Names.{Lying, Names, State}
use Rattle.atomic_file.specs.Keeping.{follower}

-- the bytes of a file; `None` where there is no file
abbrev pub lying : {A : Type 0} → Option (Vec ℕ A) → Lying
lying None = None
lying (Some bytes) = Some bytes.items

-- what lies under a name: the draft where it has the name, else the old file
abbrev pub lies : {A : Type 0} → MemoryFile A → Lying
lies slot = if slot.is_placed then Some slot.draft.items else lying slot.earlier

-- what a crash leaves under a name where it undoes what is not on disk: the old file, unless the name is on disk
abbrev pub left : {A : Type 0} → MemoryFile A → Lying
left slot = if slot.is_settled then lies slot else lying slot.earlier

-- the bytes of a draft
abbrev pub draft_of : {A : Type 0} → MemoryFile A → List ℕ
draft_of slot = slot.draft.items

-- what lies under all the names now
abbrev pub names_of : {A : Type 0} → Shelf A → Names
names_of shelf = record { file = lies shelf.file; followers = map lies shelf.followers.items }

-- what lies under the name of the k-th follower, from 0; `None` where there is no such follower
abbrev pub lies_at : {A : Type 0} → ℕ → Shelf A → Lying
lies_at k shelf = get_or (map lies shelf.followers.items) k None

-- what a crash leaves under the name of the k-th follower, from 0, where it undoes what is not on disk; `None` where
-- there is no such follower
abbrev pub left_at : {A : Type 0} → ℕ → Shelf A → Lying
left_at k shelf = get_or (map left shelf.followers.items) k None

-- what a reader finds now, or whoever comes after a crash now, which undoes each name that is not on disk or leaves it
pub record may_be {A : Type 0} (shelf : Shelf A) (c : Names) : Type 0 where
  pub file : (c.file ≡ lies shelf.file) ⊎ (c.file ≡ left shelf.file)
  pub number : length c.followers ≡ length shelf.followers.items
  pub each : (k : ℕ) → (follower k c ≡ get_or (map lies shelf.followers.items) k None) ⊎ (follower k c ≡ get_or (map left shelf.followers.items) k None)

-- what lies under the name of the k-th follower is on disk
abbrev pub IsSettled : {A : Type 0} → ℕ → Shelf A → Type 0
IsSettled k shelf = get_or (map (λ slot. slot.is_settled) shelf.followers.items) k true ≡ true

-- what lies under all the names is on disk
pub record AllSettled {A : Type 0} (shelf : Shelf A) : Type 0 where
  pub file : shelf.file.is_settled ≡ true
  pub each : (k : ℕ) → IsSettled k shelf

-- what could be found at an earlier moment
abbrev pub had_been : {A : Type 0} → Past A → Names → Type 0
had_been Begun c = ⊥
had_been (After' shelf shape before) c = may_be shelf.value c ⊎ had_been before c

-- the state of the storage as contracts see it
abbrev pub state_of : {A : Type 0} → Shelf A → State
state_of shelf = record {
  names = names_of shelf;
  draft = shelf.file.draft.items;
  waiting = map draft_of shelf.followers.items;
  synced = map (λ follower. follower.is_synced) shelf.followers.items;
  refused = map (λ follower. follower.is_refused) shelf.followers.items;
  beside = map (λ follower. follower.has_draft) shelf.followers.items;
}

-- A crash undid the names that are not on disk: the file's, and those of the followers that are not said to have
-- stayed. All else is as it was.
pub record Crashed {A : Type 0} (stayed : List Bool) (old new : Shelf A) : Type 0 where
  pub file : lies new.file ≡ left old.file
  pub each : (k : ℕ) → get_or stayed k false ≡ false → lies_at k new ≡ left_at k old
  pub same : state_of new ≡ record (state_of old) { names = names_of new }

-- a draft lies beside the file or beside a follower
abbrev pub has_drafts : {A : Type 0} → Shelf A → Bool
has_drafts shelf = shelf.file.has_draft || list_any (λ slot. slot.has_draft) shelf.followers.items

-- the draft takes the name, and until that is on disk a crash may undo it
abbrev pub placing_slot : {A : Type 0} → MemoryFile A → MemoryFile A
placing_slot slot = record slot { has_draft = false; is_placed = true; is_settled = slot.is_settled && slot.is_placed }

-- the draft is on disk
abbrev pub syncing_slot : {A : Type 0} → MemoryFile A → MemoryFile A
syncing_slot slot = record slot { is_synced = true }

-- what lies under the name is on disk, and no crash undoes it
abbrev pub settling_slot : {A : Type 0} → MemoryFile A → MemoryFile A
settling_slot slot = record slot { is_settled = true }

-- the draft could not be put in place
abbrev pub refusing_slot : {A : Type 0} → MemoryFile A → MemoryFile A
refusing_slot slot = record slot { is_refused = true }

-- the draft was removed
abbrev pub dropping_slot : {A : Type 0} → MemoryFile A → MemoryFile A
dropping_slot slot = record slot { has_draft = false }

-- a crash has undone the name, unless the name is on disk
abbrev pub undoing_slot : {A : Type 0} → MemoryFile A → MemoryFile A
undoing_slot slot = record slot { is_placed = slot.is_placed && slot.is_settled; is_settled = true }

-- the slot of the follower at this position is changed, and nothing else
pub record Changes {A : Type 0} (change : MemoryFile A → MemoryFile A) (at : ℕ) (old new : Shelf A) : Type 0 where
  -- the follower's slot before
  pub slot : MemoryFile A
  pub there : slot ≡ get_or old.followers.items at slot
  pub slots : new.followers.items ≡ slice_set old.followers.items at (change slot)
  pub same : new ≡ record old { followers = new.followers }
