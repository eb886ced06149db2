-- What callers see of a seat, at rest, waiting and inside, and what holds of each.
use Rattle.std.specs.Prelude.{◌≡◌, ◌≢◌, ℕ, ◌+◌, ◌≤◌, ◌<◌, Bool, true, false, List, [], ◌∷◌, ◌++◌, length, None}
use Rattle.atomic_table.specs.Seated.{TableId}
use Rattle.ticket_core.specs.declared.array_lock.ArrayPhase.TheVariants.{Away, Waiting as IsWaiting, Inside as IsInside, Leaving as IsLeaving}
use Rattle.work_registry.specs.EntryValue.{EntryValue}
use Rattle.work_registry.specs.BookValue.{BookValue}
use Rattle.work_registry.specs.History.{IsHistory}
use Rattle.work_registry.specs.Replay.{made}
use Rattle.registry_desk.specs.declared.view.View.{View}
use Rattle.registry_desk.specs.declared.seat.Counts.{Counts}
use Rattle.registry_desk.specs.Views.{max_turns}
use Rattle.registry_desk.specs.Plays.{Seated, Finds}

-- the identity of a desk: no two have the same
abbrev pub DeskId : Type 0
DeskId = TableId

-- a seat outside: which desk it is of, and what it knows
pub record Standing : Type 0 where
  pub desk : DeskId
  pub view : View

-- a seat that is inside: its desk and view, the book as it is now, whether no call of this turn was answered, and
-- whether one found the book full
pub record Stay : Type 0 where
  pub desk : DeskId
  pub view : View
  pub book : BookValue
  -- no call of this turn was answered
  pub unused : Bool
  -- a call of this turn found the book full
  pub full : Bool

-- the counts that a seat stores are those of its view
pub record Counted (v : View) (c : Counts) : Type 0 where
  -- the seat was not met
  pub live : v.spent ≡ false
  pub session : v.session ≡ c.session
  pub turns : v.turns + c.turns_left ≡ max_turns
  -- the seats that it may still give
  pub left : v.left ≡ c.seats_left
  pub given : v.given ≡ c.given
  pub met : length v.met ≡ c.met
  -- no seat but the opening one has met others
  pub lone : v.session ≢ 0 → v.met ≡ []
  pub few : v.given + v.left < 64
  pub session_small : v.session < 64
  -- the list of the opening seat is the history that the desk was opened with
  pub opening : v.session ≡ 0 → v.list ≡ v.opened

-- the seat has no ticket and no book
pub record Rests (me : Seated) (c : Counts) : Type 0 where
  pub counted : Counted me.0 c
  pub carries : me.1 ≡ []
  pub away : me.0.phase ≡ Away

-- the seat waits with this ticket, and has no book
pub record Waits (me : Seated) (c : Counts) (ticket : ℕ) : Type 0 where
  pub counted : Counted me.0 c
  pub carries : me.1 ≡ []
  pub waits : me.0.phase ≡ IsWaiting ticket

-- a turn added only entries of its session, at the end of the history
pub record Adds (session : ℕ) (before after added : List EntryValue) : Type 0 where
  -- they stand behind the history before
  pub whole : after ≡ before ++ added
  -- they are of this session
  pub mine : made added session ≡ added
  -- none is of another session
  pub others : (s : ℕ) → s ≢ session → made added s ≡ []

-- the seat is inside with this ticket, and has the book out of its slot
pub record Stays (me : Seated) (c : Counts) (ticket : ℕ) (book : BookValue) (unused full : Bool) : Type 0 where
  pub counted : Counted me.0 c
  pub carries : me.1 ≡ (0, None) ∷ []
  pub inside : me.0.phase ≡ IsInside ticket
  -- the history that it found on entering
  pub found : Finds me.0 me.0.held
  pub registry : IsHistory book.history
  pub bounded : length book.history ≤ book.limit
  pub limit : book.limit ≡ me.0.limit
  -- what came since is of its session
  pub adds : (added : List EntryValue) × Adds me.0.session me.0.held book.history added
  -- before a call is answered the book is as it was found
  pub fresh : unused ≡ true → book.history ≡ me.0.held
  pub opening : me.0.session ≡ 0 → book.history ≡ me.0.held
  -- where a call found the book full, it holds its limit
  pub filled : full ≡ true → length book.history ≡ book.limit

-- the seat has closed its flag, and has no book
pub record Leaves (me : Seated) (c : Counts) (ticket : ℕ) : Type 0 where
  pub counted : Counted me.0 c
  pub carries : me.1 ≡ []
  pub leaving : me.0.phase ≡ IsLeaving ticket
