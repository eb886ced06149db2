-- The entries of a history that have the calls of a file, in order.
use Rattle.std.specs.Prelude.{◌≡◌, ◌⊎◌, ℕ, ◌+◌, ◌<◌, ◌≤◌, List, [], ◌∷◌, length, drop, slice_get, Option, Some, None, ⊤}
use Rattle.cwr_call.specs.CallValue.{CallValue}
use Rattle.work_registry.specs.EntryValue.{EntryValue}

-- some entries of a history have these calls, in order, whatever lies between them
abbrev pub HasRun : List CallValue → List EntryValue → Type 0
HasRun [] history = ⊤
HasRun (call ∷ calls) [] = ⊥
HasRun (call ∷ calls) (e ∷ history) = ((e.call ≡ call) × HasRun calls history) ⊎ HasRun (call ∷ calls) history

-- the run of these calls from the front of a history: the first entry with the first call, then the first one behind
-- it with the second call, and so on
abbrev pub IsRun : List CallValue → List EntryValue → List EntryValue → Type 0
IsRun [] history run = run ≡ []
IsRun (call ∷ calls) [] run = ⊥
IsRun (call ∷ calls) (e ∷ history) run =
    ((e.call ≡ call) × (rest : List EntryValue) × (run ≡ e ∷ rest) × IsRun calls history rest)
    ⊎ ((e.call ≡ call → ⊥) × IsRun (call ∷ calls) history run)

-- no entries from a later place on have these calls; a place is the number of entries before it
pub record IsLast (calls : List CallValue) (history : List EntryValue) (place : ℕ) : Type 0 where
  pub within : place ≤ length history
  -- there is no run from any later place on
  pub later : (other : ℕ) → place < other → other ≤ length history → HasRun calls (drop other history) → ⊥

-- the entry with this number, from 1, has the first of these calls, and stands at this place, from 0
pub record IsNamed (number : ℕ) (calls : List CallValue) (history : List EntryValue) (place : ℕ) : Type 0 where
  pub counted : number ≡ place + 1
  pub entry : EntryValue
  pub found : slice_get history place ≡ Some entry
  pub first : slice_get calls 0 ≡ Some entry.call

-- where the run begins: at the named entry, else at the last place from which there is one
abbrev pub IsPlace : Option ℕ → List CallValue → List EntryValue → ℕ → Type 0
IsPlace None calls history place = IsLast calls history place
IsPlace (Some number) calls history place = IsNamed number calls history place

-- from where entries are looked for to see whether there is a run: from the named entry, else from the start
abbrev pub IsFront : Option ℕ → List CallValue → List EntryValue → ℕ → Type 0
IsFront None calls history place = place ≡ 0
IsFront (Some number) calls history place = IsNamed number calls history place

-- the run of these calls from the named entry on, or from the last place from which there is one
pub record IsRunFrom (entry : Option ℕ) (calls : List CallValue) (history run : List EntryValue) : Type 0 where
  pub place : ℕ
  pub begins : IsPlace entry calls history place
  pub first : IsRun calls (drop place history) run
