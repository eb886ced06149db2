-- A history of one registry, and what holds in each.
use Rattle.std.specs.Prelude.{◌≡◌, ℕ, ◌≤◌, ◌<◌, List, length, take, slice_index_or, Some}
use Rattle.work_registry.specs.EntryValue.{EntryValue}
use Rattle.work_registry.specs.Rows.{Row, rows_of}
use Rattle.work_registry.specs.Works.{control_in, iswc_of, work_of_iswc}
use Rattle.work_registry.specs.Reply.{reply_to, max_control}

-- the entries are a history of one registry: entry j has the reply that the registry gives to its call after the
-- entries before it
abbrev pub IsHistory : List EntryValue → Type 0
IsHistory h = (j : ℕ) (d : EntryValue) → j < length h → (slice_index_or h j d).reply ≡ reply_to (rows_of (take j h)) (slice_index_or h j d).call

-- the control of each work is at most 100.06 per cent, in each of the three rights
abbrev pub IsShared : List Row → Type 0
IsShared rows = (right w : ℕ) → right < 3 → control_in right w rows ≤ max_control

-- no two works have the same ISWC
abbrev pub IsNamedOnce : List Row → Type 0
IsNamedOnce rows = (a b i : ℕ) → iswc_of a rows ≡ Some i → iswc_of b rows ≡ Some i → a ≡ b

-- a work is the work of an ISWC exactly where that is the work's ISWC
abbrev pub Agrees : List Row → Type 0
Agrees rows = (i w : ℕ) → (work_of_iswc i rows ≡ Some w → iswc_of w rows ≡ Some i) × (iswc_of w rows ≡ Some i → work_of_iswc i rows ≡ Some w)

-- a work that had an ISWC before has the same one after
abbrev pub KeepsNames : List Row → List Row → Type 0
KeepsNames before after = (w i : ℕ) → iswc_of w before ≡ Some i → iswc_of w after ≡ Some i
