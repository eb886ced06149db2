-- The rule of a desk: what holds between any two steps, whoever makes them. Word 0 is the next ticket, words 1 to 64
-- are the flags, and the one slot is the book's.
use Rattle.std.specs.Prelude.{◌≡◌, ℕ, ◌+◌, ◌*◌, ◌<◌, ◌≤◌, Bool, true, false, ◌==◌, List, [], ◌∷◌, map, length, drop, slice_index, Option, Some}
use Rattle.std.specs.List.{sum_by}
use mathlib.Core.Option.{some}
use mathlib.Core.List.{IsPrefix}
use lib.ListN.{get_elem?}
use Rattle.atomic_table.specs.Table.{State}
use Rattle.ticket_core.specs.declared.array_lock.ArrayPhase.TheVariants.{Inside}
use Rattle.ticket_core.specs.ArrayLock.{ArrayState, IsLawfulArrayState}
use Rattle.work_registry.specs.EntryValue.{EntryValue}
use Rattle.work_registry.specs.BookValue.{BookValue}
use Rattle.work_registry.specs.History.{IsHistory}
use Rattle.work_registry.specs.Replay.{made}
use Rattle.registry_desk.specs.declared.view.View.{View}
use Rattle.registry_desk.specs.declared.view.Met.{Met}
use Rattle.registry_desk.specs.Views.{phase_of, seats_of, turns_of, spent_view, max_turns, open_flag}

-- the word of a flag says that it is open
abbrev pub is_open : ℕ → Bool
is_open word = word == open_flag

-- which flags are open, by the words 1 to 64
abbrev pub flags_of : List ℕ → List Bool
flags_of words = map is_open (drop 1 words)

-- the state of the pure lock that the words and the views show
abbrev pub shown_lock : List ℕ → List View → ArrayState
shown_lock words views = record { next = slice_index words 0; flags = flags_of words; phases = map phase_of views }

-- what is known of a seat that was met is true: its entries in the history are its list, and the history begins with
-- what it saw last
pub record MetFits (history : List EntryValue) (limit : ℕ) (m : Met) : Type 0 where
  -- the entries of its session are its list
  pub list : made history m.session ≡ m.list
  -- the history begins with what it saw last
  pub front : IsPrefix m.front history
  -- where a call of it found the book full, the history holds its limit
  pub mark : m.marked ≡ true → length history ≡ limit

-- what the seat i, of n seats, knows is true
pub record ViewFits (n : ℕ) (history : List EntryValue) (limit : ℕ) (i : ℕ) (v : View) : Type 0 where
  -- seats are numbered by their sessions
  pub own : v.spent ≡ false → v.session ≡ i
  -- of a seat that was met, `spent_view` is left
  pub gone : v.spent ≡ true → v ≡ spent_view
  pub turns : v.turns ≤ max_turns
  pub met_turns : v.met_turns ≤ length v.met * max_turns
  pub opened : IsPrefix v.opened history
  -- the history begins with what the seat saw last
  pub front : IsPrefix v.front history
  -- the entries of the seat's session are its list
  pub list : v.spent ≡ false → made history v.session ≡ v.list
  pub limited : v.spent ≡ false → v.limit ≡ limit
  -- where a call of it found the book full, the history holds its limit
  pub mark : v.marked ≡ true → length history ≡ limit
  -- the opening seat has given all others, and is never met
  pub opens : i ≡ 0 → (v.spent ≡ false) × (n ≡ v.given + 1) × (v.given + v.left < 64)
  -- a seat that is inside found this history
  pub holding : (t : ℕ) → v.phase ≡ Inside t → v.held ≡ history
  -- what it knows of seats that were met is true
  pub known : (k : ℕ) (m : Met) → get_elem? v.met k ≡ some m → MetFits history limit m

-- no seat is inside
abbrev pub NobodyInside : List View → Type 0
NobodyInside views = (i t : ℕ) (v : View) → get_elem? views i ≡ some v → v.phase ≡ Inside t → ⊥

-- some seat has met the seat of this session
abbrev pub HasMet : List View → ℕ → Type 0
HasMet views session = (i : ℕ) × (k : ℕ) × (v : View) × (m : Met)
    × (get_elem? views i ≡ some v) × (get_elem? v.met k ≡ some m) × (m.session ≡ session)

-- the words, the slot of the book and the views of a desk
abbrev pub DeskState : Type 0
DeskState = State (Option BookValue) View

-- the rule of a desk, which holds between any two steps: it relates words, seats and book to one another
pub record Kept (s : DeskState) : Type 0 where
  -- the history between two turns: that of the book at home, or the one that the seat inside found
  pub history : List EntryValue
  pub limit : ℕ
  -- the lock
  pub words : length s.words ≡ 65
  pub lock : IsLawfulArrayState (shown_lock s.words s.views)
  -- the seats: each that was given is there or was met, and the next ticket counts the turns of all
  pub total : sum_by turns_of s.views ≡ slice_index s.words 0
  pub some_seat : 0 < length s.views
  pub seats : sum_by seats_of s.views ≡ length s.views
  -- what each seat knows is true
  pub each : (i : ℕ) (v : View) → get_elem? s.views i ≡ some v → ViewFits (length s.views) history limit i v
  -- the view of a seat that was met is `spent_view`
  pub apart : (i k : ℕ) (v : View) (m : Met) → get_elem? s.views i ≡ some v → get_elem? v.met k ≡ some m
      → get_elem? s.views m.session ≡ some spent_view
  -- a seat whose view is `spent_view` was met by some seat
  pub joined : (j : ℕ) → get_elem? s.views j ≡ some spent_view → HasMet s.views j
  -- the book
  pub registry : IsHistory history
  pub bounded : length history ≤ limit
  -- a session that no seat was given for has made no entries
  pub later : (session : ℕ) → length s.views ≤ session → made history session ≡ []
  -- while no seat is inside, the book is in its slot
  pub at_home : NobodyInside s.views → s.homes ≡ some (Some (record { history = history; limit = limit })) ∷ []
