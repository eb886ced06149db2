-- A run of the desk, and the run of the pure lock that it shows.
use Rattle.std.specs.Prelude.{◌≡◌, ℕ, ◌<◌, ◌≤◌, List, [], ◌∷◌, Option, Some, None, map, length, replicate, slice_index, slice_set}
use Rattle.std.specs.List.{filter_map}
use Rattle.atomic_table.specs.Table.{opening}
use Rattle.ticket_core.specs.declared.array_lock.ArrayEvent.{ArrayEvent}
use Rattle.ticket_core.specs.declared.array_lock.ArrayEvent.TheVariants.{Draw, Look, Shut, Pass}
use Rattle.ticket_core.specs.ArrayLock.{ticket_phase}
use Rattle.ticket_core.specs.ArraySteps.{new_array_lock, array_after_all}
use Rattle.ticket_core.specs.TicketLock.{AtMostOneInside}
use Rattle.ticket_core.specs.TicketSteps.{greatest_next}
use Rattle.work_registry.specs.BookValue.{BookValue}
use Rattle.registry_desk.specs.Views.{open_flag, phase_of, opening_view}
use Rattle.registry_desk.specs.Kinds.{Kind, draws, looks, shuts, passes}
use Rattle.registry_desk.specs.Rule.{DeskState, Kept}
use Rattle.registry_desk.specs.Steps.{Makes, shown}

-- a step of a desk: its kind, and the number of the seat that makes it
pub record DeskStep : Type 0 where
  pub kind : Kind
  pub seat : ℕ

-- a ticket is left to draw: the next one is not the greatest u64
abbrev pub TicketsLeft : DeskState → Type 0
TicketsLeft s = slice_index s.words 0 < greatest_next

-- these steps, one after another, lead from one state of the desk to the other, and tickets are left before each
abbrev pub Leads : DeskState → List DeskStep → DeskState → Type 0
Leads s [] last = last ≡ s
Leads s (d ∷ ds) last = TicketsLeft s × (next : DeskState) × Makes d.kind d.seat s next × Leads next ds last

-- the state of a desk that is opened with this book for this number of seats: of the flags the first alone is open
abbrev pub opened : BookValue → ℕ → DeskState
opened book seats = opening (slice_set (replicate 65 0) 1 open_flag) (Some book ∷ []) (opening_view book seats)

-- the event of the lock that a step of this kind by this seat is; `None` where it is no event
abbrev pub event_of : Kind → ℕ → Option ArrayEvent
event_of draws id = Some (Draw id)
event_of looks id = Some (Look id)
event_of (shuts full) id = Some (Shut id)
event_of passes id = Some (Pass id)
event_of _ id = None

-- the events of a run, in order
abbrev pub events_of : List DeskStep → List ArrayEvent
events_of steps = filter_map (λ d. event_of d.kind d.seat) steps

-- A run of a desk: any steps of any seats in any order, from its opening on. The rule is no part of it.
abbrev pub DeskRun : List DeskStep → DeskState → Type 0
DeskRun steps last = (book : BookValue) × (seats : ℕ) × Leads (opened book seats) steps last

-- a desk that is opened shows a new lock of one place, whatever its words are, where the rule holds
abbrev pub OpensAsNew : Type 0
OpensAsNew = (words : List ℕ) (slots : List (Option BookValue)) (book : BookValue) (seats : ℕ)
    → let first = opening words slots (opening_view book seats) in Kept first → shown first ≡ new_array_lock 1

-- where the rule holds there are at most 64 seats, and tickets are left
abbrev pub KeepsRoom : Type 0
KeepsRoom = (s : DeskState) → Kept s → (length s.views ≤ 64) × TicketsLeft s

-- a run of the desk shows a run of the lock, from a new one, of as many places as there are seats in the end
abbrev pub ShowsRun : Type 0
ShowsRun = (steps : List DeskStep) (last : DeskState) → DeskRun steps last
    → shown last ≡ array_after_all (new_array_lock (length last.views)) (events_of steps)

-- after a run of the desk at most one seat is inside or leaving
abbrev pub RunsHaveOneInside : Type 0
RunsHaveOneInside = (steps : List DeskStep) (last : DeskState) → DeskRun steps last → length last.views ≤ 64
    → AtMostOneInside (map ticket_phase (map phase_of last.views))
