-- What each event does to a ticket lock, as Mellor-Crummey and Scott (1991) give the lock.
use Rattle.std.specs.Prelude.{ℕ, ◌+◌, if◌then◌else◌, nat_lt, ◌==◌, ◌&&◌, length, List, [], ◌∷◌, replicate, slice_set}
use Rattle.ticket_core.specs.declared.ticket_lock.Phase.{Phase}
use Rattle.ticket_core.specs.declared.ticket_lock.Phase.TheVariants.{Away, Waiting, Inside}
use Rattle.ticket_core.specs.declared.ticket_lock.Event.{Event}
use Rattle.ticket_core.specs.declared.ticket_lock.Event.TheVariants.{Draw, Look, Leave}
use Rattle.ticket_core.specs.declared.ticket_lock.Outcome.{Outcome}
use Rattle.ticket_core.specs.declared.ticket_lock.Outcome.TheVariants.{Drew, Waits, Enters, Leaves, Nothing}
use Rattle.ticket_core.specs.TicketLock.{LockState, phase_at}

-- a new lock with this number of places: no ticket is drawn, and every place is away
abbrev pub new_lock : ℕ → LockState
new_lock places = record { next = 0; serving = 0; phases = replicate places Away }

-- the greatest u64; once `next` is this, no ticket is drawn any more
abbrev pub greatest_next : ℕ
greatest_next = 18446744073709551615

-- a place in this phase draws: one that is away gets the next ticket
abbrev pub draw_answer : LockState → ℕ → Phase → LockState × Outcome
draw_answer s place Away =
    (record s { next = s.next + 1; phases = slice_set s.phases place (Waiting s.next) }, Drew s.next)
draw_answer s place _ = (s, Nothing)

-- a place in this phase looks: one that waits enters where its ticket is the served one
abbrev pub look_answer : LockState → ℕ → Phase → LockState × Outcome
look_answer s place (Waiting t) =
    if t == s.serving then (record s { phases = slice_set s.phases place (Inside t) }, Enters t) else (s, Waits)
look_answer s place _ = (s, Nothing)

-- a place in this phase leaves: one that is inside serves the next ticket
abbrev pub leave_answer : LockState → ℕ → Phase → LockState × Outcome
leave_answer s place (Inside t) =
    (record s { serving = s.serving + 1; phases = slice_set s.phases place Away }, Leaves)
leave_answer s place _ = (s, Nothing)

-- the state after an event, and the event's outcome
abbrev pub answer : LockState → Event → LockState × Outcome
answer s (Draw place) =
    if nat_lt place (length s.phases) && nat_lt s.next greatest_next then draw_answer s place (phase_at s.phases place)
    else (s, Nothing)
answer s (Look place) = look_answer s place (phase_at s.phases place)
answer s (Leave place) = leave_answer s place (phase_at s.phases place)

-- the state after a list of events, one after the other
abbrev pub after_all : LockState → List Event → LockState
after_all s [] = s
after_all s (e ∷ es) = after_all (answer s e).0 es

-- the outcomes of a list of events, in order
abbrev pub answers : LockState → List Event → List Outcome
answers s [] = []
answers s (e ∷ es) = (answer s e).1 ∷ answers (answer s e).0 es
