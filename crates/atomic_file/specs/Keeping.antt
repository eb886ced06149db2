-- What keeping a text under the name of a file does, and in which order the names are taken. Positions of followers
-- count from 0.
use Rattle.std.specs.Prelude.{◌≡◌, ◌⊎◌, ◌<◌, ℕ, List, Option, Some, None, length, get_or, IfSome, IsSomeAnd}
use Rattle.atomic_file.specs.Names.{Lying, Names, State, waiting_text, with_file, IsRefused, IsSynced}

-- the names are as they were, or as they were with the whole text under the file's name
abbrev pub OldOrNew : Names → List ℕ → Names → Type 0
OldOrNew old text c = (c ≡ old) ⊎ (c ≡ with_file text old)

-- no follower is in place before the file: all is as it was, or the whole text lies under the file's name
abbrev pub FileFirst : Names → List ℕ → Names → Type 0
FileFirst old text c = (c ≡ old) ⊎ (c.file ≡ Some text)

-- what lies under the name of the follower at this position
abbrev pub follower : ℕ → Names → Lying
follower at names = get_or names.followers at None

-- what lies under the file's name is the same, and under the name of each follower the same or its whole draft
pub record MayFollow (s : State) (old c : Names) : Type 0 where
  pub file : c.file ≡ old.file
  pub each : (k : ℕ) → (follower k c ≡ follower k old) ⊎ (follower k c ≡ Some (waiting_text k s))

-- the draft of each follower is on disk, or the follower is reported as refused
abbrev pub AreSynced : State → Type 0
AreSynced s = (k : ℕ) → k < length s.waiting → IsSynced k s ⊎ IsRefused k s

-- the drafts of the followers are on disk, except of those that are reported as refused; all else is as it was
pub record HaveSynced (old new : State) : Type 0 where
  pub same : new ≡ record old { synced = new.synced; refused = new.refused }
  pub each : AreSynced new
  -- who was refused is still
  pub still : (k : ℕ) → IsRefused k old → IsRefused k new

-- further followers may be reported as refused; all else is as it was
pub record MayRefuse (old new : State) : Type 0 where
  pub same : new ≡ record old { refused = new.refused }
  -- who was refused is still
  pub still : (k : ℕ) → IsRefused k old → IsRefused k new

-- whoever looks finds what lies under the name of each follower, except of those that are reported as refused
abbrev pub AreSettled : (Names → Type 0) → State → Type 0
AreSettled may_find s = (k : ℕ) → k < length s.waiting → IsRefused k s ⊎ ((c : Names) → may_find c → follower k c ≡ follower k s.names)

-- the file is the same, and each of the first n followers has its whole draft under its name, or is reported as
-- refused
pub record AreFollowing (n : ℕ) (old new : State) : Type 0 where
  pub file : new.names.file ≡ old.names.file
  pub draft : new.draft ≡ old.draft
  pub waiting : new.waiting ≡ old.waiting
  pub each : (k : ℕ) → k < n → (follower k new.names ≡ Some (waiting_text k old)) ⊎ IsRefused k new

-- whoever looks finds the whole draft under the name of each follower, except of those that are reported as refused
abbrev pub AreThere : (Names → Type 0) → State → State → Type 0
AreThere may_find old new = (k : ℕ) → k < length old.waiting → IsRefused k new ⊎ ((c : Names) → may_find c → follower k c ≡ Some (waiting_text k old))

-- whoever looks finds what could be found before, or names of this kind
abbrev pub SinceThen : (Names → Type 0) → (Names → Type 0) → (Names → Type 0) → Type 0
SinceThen before now kind = (c : Names) → now c → before c ⊎ kind c

-- where the state was known before, it is known after, and P holds of the two
abbrev pub Leads : (State → State → Type 0) → Option State → Option State → Type 0
Leads P old new = IfSome old (λ s. IsSomeAnd new (P s))
