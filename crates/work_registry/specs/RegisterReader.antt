-- A register that is read as its bytes come: how far it was read.
use Rattle.std.specs.Prelude.{◌≡◌, ◌≤◌, ℕ, List, [], length, Option, Some, None, Bool, true}
use Rattle.work_registry.specs.EntryValue.{EntryValue}
use Rattle.work_registry.specs.Numbers.{max_entries}
use Rattle.work_registry.specs.RegisterReading.{IsReadTo}
use Rattle.work_registry.specs.Replay.{is_opening}

-- how far a register was read, as contracts see it
pub record ReaderState : Type 0 where
  -- the most entries that it may have
  pub limit : ℕ
  -- the number of entries that its first line states; `None` before that line is read
  pub count : Option ℕ
  -- the entries so far
  pub history : List EntryValue

-- the same of a reader that stores the entries, or does not
pub record LinesState : Type 0 where
  -- whether it stores the entries
  pub keeps : Bool
  pub read : ReaderState

-- no entry was read before the first line, and no more than that line states, which is at most the limit
abbrev pub HasCounted : ℕ → Option ℕ → List EntryValue → Type 0
HasCounted limit None history = history ≡ []
HasCounted limit (Some count) history = (length history ≤ count) × (count ≤ limit)

-- what holds of every reader: it has read no more entries than the first line states and the limit allows, none before
-- that line, and all are of the opening
pub record IsReader (limit : ℕ) (count : Option ℕ) (history : List EntryValue) : Type 0 where
  pub counted : HasCounted limit count history
  pub least : 1 ≤ limit
  pub most : limit ≤ max_entries
  pub opening : is_opening history ≡ true

-- `rest` is what follows of a text after the first line, if that was read, and these entries
abbrev pub IsRestAfter : ℕ → Option ℕ → List EntryValue → List ℕ → List ℕ → Type 0
IsRestAfter limit None history text rest = text ≡ rest
IsRestAfter limit (Some count) history text rest = IsReadTo limit text count history rest

-- this is the rest of a text, of which the other bytes were read without a fault
abbrev pub IsRest : ReaderState → List ℕ → List ℕ → Type 0
IsRest state text rest = IsRestAfter state.limit state.count state.history text rest
