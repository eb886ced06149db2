-- What each event does to an array-based queueing lock, as Anderson (1990) gives the lock.
use Rattle.std.specs.Prelude.{ℕ, ◌+◌, true, false, if◌then◌else◌, nat_lt, ◌&&◌, length, List, [], ◌∷◌, replicate, slice_set}
use Rattle.ticket_core.specs.declared.array_lock.ArrayPhase.{ArrayPhase}
use Rattle.ticket_core.specs.declared.array_lock.ArrayPhase.TheVariants.{Away, Waiting, Inside, Leaving}
use Rattle.ticket_core.specs.declared.array_lock.ArrayEvent.{ArrayEvent}
use Rattle.ticket_core.specs.declared.array_lock.ArrayEvent.TheVariants.{Draw, Look, Shut, Pass}
use Rattle.ticket_core.specs.declared.array_lock.ArrayOutcome.{ArrayOutcome}
use Rattle.ticket_core.specs.declared.array_lock.ArrayOutcome.TheVariants.{Drew, Waits, Enters, Shuts, Passes, Nothing}
use Rattle.ticket_core.specs.ArrayLock.{ArrayState, array_phase_at, flag_at, flag_of}
use Rattle.ticket_core.specs.TicketSteps.{greatest_next}

-- a new lock with this number of places: no ticket is drawn, every place is away, and flag 0 alone is open
abbrev pub new_array_lock : ℕ → ArrayState
new_array_lock places = record { next = 0; flags = slice_set (replicate 64 false) 0 true; phases = replicate places Away }

-- a place in this phase draws: one that is away gets the next ticket
abbrev pub array_draw_answer : ArrayState → ℕ → ArrayPhase → ArrayState × ArrayOutcome
array_draw_answer s place Away =
    (record s { next = s.next + 1; phases = slice_set s.phases place (Waiting s.next) }, Drew s.next)
array_draw_answer s place _ = (s, Nothing)

-- a place in this phase looks: one that waits enters where its ticket's flag is open
abbrev pub array_look_answer : ArrayState → ℕ → ArrayPhase → ArrayState × ArrayOutcome
array_look_answer s place (Waiting t) =
    if flag_at s.flags (flag_of t) then (record s { phases = slice_set s.phases place (Inside t) }, Enters t) else (s, Waits)
array_look_answer s place _ = (s, Nothing)

-- a place in this phase closes its flag: one that is inside closes its ticket's flag, and is then leaving
abbrev pub array_shut_answer : ArrayState → ℕ → ArrayPhase → ArrayState × ArrayOutcome
array_shut_answer s place (Inside t) =
    (record s { flags = slice_set s.flags (flag_of t) false; phases = slice_set s.phases place (Leaving t) }, Shuts)
array_shut_answer s place _ = (s, Nothing)

-- a place in this phase passes: one that is leaving opens the next ticket's flag
abbrev pub array_pass_answer : ArrayState → ℕ → ArrayPhase → ArrayState × ArrayOutcome
array_pass_answer s place (Leaving t) =
    (record s { flags = slice_set s.flags (flag_of (t + 1)) true; phases = slice_set s.phases place Away }, Passes)
array_pass_answer s place _ = (s, Nothing)

-- the state after an event, and the event's outcome
abbrev pub array_answer : ArrayState → ArrayEvent → ArrayState × ArrayOutcome
array_answer s (Draw place) =
    if nat_lt place (length s.phases) && nat_lt s.next greatest_next then array_draw_answer s place (array_phase_at s.phases place)
    else (s, Nothing)
array_answer s (Look place) = array_look_answer s place (array_phase_at s.phases place)
array_answer s (Shut place) = array_shut_answer s place (array_phase_at s.phases place)
array_answer s (Pass place) = array_pass_answer s place (array_phase_at s.phases place)

-- the state after a list of events, one after the other
abbrev pub array_after_all : ArrayState → List ArrayEvent → ArrayState
array_after_all s [] = s
array_after_all s (e ∷ es) = array_after_all (array_answer s e).0 es

-- the outcomes of a list of events, in order
abbrev pub array_answers : ArrayState → List ArrayEvent → List ArrayOutcome
array_answers s [] = []
array_answers s (e ∷ es) = (array_answer s e).1 ∷ array_answers (array_answer s e).0 es
