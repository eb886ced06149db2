-- Each atomic step of the running desk is its event of the pure lock: the lock that the desk shows after the step is
-- what the lock that it showed before answers to the event.
use Rattle.std.specs.Prelude.{◌≡◌, ◌≢◌, ℕ, ◌+◌, ◌%◌, ◌^◌, Bool, List, slice_index, slice_set, map}
use mathlib.Core.Option.{some}
use lib.ListN.{get_elem?}
use Rattle.ticket_core.specs.declared.array_lock.ArrayPhase.TheVariants.{Away, Waiting, Inside, Leaving}
use Rattle.ticket_core.specs.declared.array_lock.ArrayEvent.{ArrayEvent}
use Rattle.ticket_core.specs.declared.array_lock.ArrayEvent.TheVariants.{Draw, Look, Shut, Pass}
use Rattle.ticket_core.specs.declared.array_lock.ArrayOutcome.{ArrayOutcome}
use Rattle.ticket_core.specs.declared.array_lock.ArrayOutcome.TheVariants.{Drew, Waits, Enters, Shuts, Passes}
use Rattle.ticket_core.specs.ArrayLock.{ticket_phase, IsLawfulArrayState}
use Rattle.ticket_core.specs.ArraySteps.{array_answer}
use Rattle.ticket_core.specs.TicketLock.{AtMostOneInside}
use Rattle.work_registry.specs.EntryValue.{EntryValue}
use Rattle.registry_desk.specs.declared.view.View.{View}
use Rattle.registry_desk.specs.Views.{phase_of, open_flag, drawn, looked, entered, shut, passed}
use Rattle.registry_desk.specs.Plays.{flag_word_of}
use Rattle.registry_desk.specs.Rule.{DeskState, shown_lock, Kept}

-- where the rule holds, the state that is shown is lawful, and at most one seat is inside or leaving
abbrev pub ShowsLawfulLock : Type 0
ShowsLawfulLock = (s : DeskState) → Kept s
    → IsLawfulArrayState (shown_lock s.words s.views) × AtMostOneInside (map ticket_phase (map phase_of s.views))

-- the rule holds, and the seat with this number has this view
abbrev pub Has : DeskState → ℕ → View → Type 0
Has s id v = Kept s × (get_elem? s.views id ≡ some v)

-- the lock that is shown answers the event with this outcome, and is then the one that these words and views show
abbrev pub Answers : DeskState → ArrayEvent → List ℕ → List View → ArrayOutcome → Type 0
Answers s event words views outcome = array_answer (shown_lock s.words s.views) event ≡ (shown_lock words views, outcome)

-- the fetch-and-add of 1 on word 0 is a Draw
abbrev pub DrawIsEvent : Type 0
DrawIsEvent = (s : DeskState) (id : ℕ) (v : View) → Has s id v → v.phase ≡ Away → let n = slice_index s.words 0 in
    Answers s (Draw id) (slice_set s.words 0 ((n + 1) % 2 ^ 64)) (slice_set s.views id (drawn v n)) (Drew n)

-- the load of an open flag is a Look that enters
abbrev pub EnterIsEvent : Type 0
EnterIsEvent = (s : DeskState) (id t : ℕ) (v : View) (history : List EntryValue) → Has s id v → v.phase ≡ Waiting t
    → slice_index s.words (flag_word_of t) ≡ open_flag
    → Answers s (Look id) s.words (slice_set s.views id (entered v t history)) (Enters t)

-- the load of a flag that is not open is a Look that waits
abbrev pub WaitIsEvent : Type 0
WaitIsEvent = (s : DeskState) (id t : ℕ) (v : View) → Has s id v → v.phase ≡ Waiting t
    → let found = slice_index s.words (flag_word_of t) in found ≢ open_flag
    → Answers s (Look id) s.words (slice_set s.views id (looked v found)) Waits

-- the store of 0 into the seat's own flag is a Shut
abbrev pub ShutIsEvent : Type 0
ShutIsEvent = (s : DeskState) (id t : ℕ) (v : View) (full : Bool) (history : List EntryValue) → Has s id v
    → v.phase ≡ Inside t
    → Answers s (Shut id) (slice_set s.words (flag_word_of t) 0) (slice_set s.views id (shut v t full history)) Shuts

-- the store of 1 into the next flag is a Pass
abbrev pub PassIsEvent : Type 0
PassIsEvent = (s : DeskState) (id t : ℕ) (v : View) → Has s id v → v.phase ≡ Leaving t
    → Answers s (Pass id) (slice_set s.words (flag_word_of (t + 1)) open_flag) (slice_set s.views id (passed v)) Passes
