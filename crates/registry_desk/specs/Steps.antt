-- The steps of a running desk, each of one kind, and what each is to the pure lock that the desk shows.
use Rattle.std.specs.Prelude.{◌≡◌, ◌≢◌, ◌⊎◌, ℕ, ◌+◌, ◌%◌, ◌^◌, [], ◌∷◌, ◌++◌, slice_index, slice_set, Option}
use mathlib.Core.Option.{some}
use lib.ListN.{get_elem?}
use Rattle.atomic_table.specs.Table.{Act, Step, carried_after, stepped}
use Rattle.ticket_core.specs.declared.array_lock.ArrayPhase.TheVariants.{Away}
use Rattle.ticket_core.specs.declared.array_lock.ArrayEvent.TheVariants.{Draw, Look, Shut, Pass}
use Rattle.ticket_core.specs.declared.array_lock.ArrayOutcome.TheVariants.{Drew, Waits, Enters, Shuts, Passes}
use Rattle.ticket_core.specs.ArrayLock.{ArrayState}
use Rattle.ticket_core.specs.ArraySteps.{array_answer}
use Rattle.work_registry.specs.BookValue.{BookValue}
use Rattle.registry_desk.specs.declared.view.View.{View}
use Rattle.registry_desk.specs.Views.{open_flag, spent_view}
use Rattle.registry_desk.specs.Plays.{Seated}
use Rattle.registry_desk.specs.Kinds.{Kind, draws, looks, shuts, passes, gives, meets, exchanges, Tells, left_by, given_by, joined_by}
use Rattle.registry_desk.specs.Rule.{DeskState, shown_lock, Kept}

-- the value that a step of this kind writes into a word in which it finds n
abbrev pub written_by : Kind → ℕ → ℕ
written_by draws n = (n + 1) % 2 ^ 64
written_by (shuts full) n = 0
written_by passes n = open_flag
written_by _ n = n

-- the number that a step of this kind reports: the one found, or where it stores one the one stored
abbrev pub number_of : Kind → ℕ → ℕ
number_of (shuts full) n = 0
number_of passes n = open_flag
number_of _ n = n

-- The seat `id`, whose view and slots are `me`, makes a step on a word: what it writes, and how the seat is after it,
-- is as the kind says.
pub record StepsOnWord (kind : Kind) (id : ℕ) (s after : DeskState) : Type 0 where
  pub me : Seated
  pub there : get_elem? s.views id ≡ some me.0
  -- the step, which says on which word it is
  pub step : Step (Option BookValue)
  -- the seat's view after it
  pub view : View
  -- what the step does with the slot of the book
  pub act : Act (Option BookValue)
  pub told : Tells kind step me (number_of kind (slice_index s.words step.word)) (view, carried_after me.1 act)
  pub state : after ≡ stepped s step.word (written_by kind (slice_index s.words step.word)) id me.1 view act

-- the seat `id` gives a seat, which stands behind all others in the list
pub record Gives (id : ℕ) (s after : DeskState) : Type 0 where
  pub view : View
  pub there : get_elem? s.views id ≡ some view
  pub state : after ≡ record s { views = slice_set s.views id (left_by gives view) ++ given_by gives view ∷ [] }

-- the seat `id` meets another one, which has no ticket
pub record Meets (id : ℕ) (s after : DeskState) : Type 0 where
  pub view : View
  pub there : get_elem? s.views id ≡ some view
  -- the number of the seat that it meets
  pub other : ℕ
  pub apart : other ≢ id
  pub met : View
  pub other_there : get_elem? s.views other ≡ some met
  pub away : met.phase ≡ Away
  pub state : after ≡ record s { views = slice_set (slice_set s.views id (joined_by meets view met)) other spent_view }

-- A step of this kind by the seat `id` leads from one state of the desk to the other. An exchange changes the book,
-- which is out of its slot with the seat, so that the state of the desk stays.
abbrev pub Makes : Kind → ℕ → DeskState → DeskState → Type 0
Makes gives id s after = Gives id s after
Makes meets id s after = Meets id s after
Makes exchanges id s after = after ≡ s
Makes kind id s after = StepsOnWord kind id s after

-- the state of the pure lock that the desk shows
abbrev pub shown : DeskState → ArrayState
shown s = shown_lock s.words s.views

-- the lock with one place more, which is away
abbrev pub one_place_more : ArrayState → ArrayState
one_place_more lock = record lock { phases = lock.phases ++ Away ∷ [] }

-- What a step of this kind by the seat `id` is to the lock: an event, which the lock answers and then is as after the
-- step; or, where a seat is given, a place more; or nothing.
abbrev pub IsEvent : Kind → ℕ → ArrayState → ArrayState → Type 0
IsEvent draws id lock after = array_answer lock (Draw id) ≡ (after, Drew lock.next)
IsEvent looks id lock after = (array_answer lock (Look id) ≡ (after, Waits))
    ⊎ ((ticket : ℕ) × (array_answer lock (Look id) ≡ (after, Enters ticket)))
IsEvent (shuts full) id lock after = array_answer lock (Shut id) ≡ (after, Shuts)
IsEvent passes id lock after = array_answer lock (Pass id) ≡ (after, Passes)
IsEvent gives id lock after = after ≡ one_place_more lock
IsEvent _ id lock after = after ≡ lock

-- each step from a state where the rule holds is to the lock what its kind says
abbrev pub EachStepIsEvent : Type 0
EachStepIsEvent = (kind : Kind) (id : ℕ) (s after : DeskState) → Kept s → Makes kind id s after
    → IsEvent kind id (shown s) (shown after)

-- Where the rule holds, the lock that is shown is determined by what the seats know. So whatever number the rule would
-- let a step of a kind write, the same lock is shown.
abbrev pub ViewsFixLock : Type 0
ViewsFixLock = (s t : DeskState) → Kept s → Kept t → s.views ≡ t.views → shown s ≡ shown t
