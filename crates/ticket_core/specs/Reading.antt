-- A run of the array-based queueing lock, read as a run of the ticket lock.
use Rattle.std.specs.Prelude.{◌≡◌, List, map, Option, Some, None}
use Rattle.std.specs.List.{filter_map, zip}
use Rattle.ticket_core.specs.declared.ticket_lock.Event.{Event}
use Rattle.ticket_core.specs.declared.ticket_lock.Event.TheVariants.{Draw, Look, Leave}
use Rattle.ticket_core.specs.declared.ticket_lock.Outcome.{Outcome}
use Rattle.ticket_core.specs.declared.ticket_lock.Outcome.TheVariants.{Drew, Waits, Enters, Leaves, Nothing}
use Rattle.ticket_core.specs.declared.array_lock.ArrayEvent.{ArrayEvent}
use Rattle.ticket_core.specs.declared.array_lock.ArrayEvent.TheVariants.{Draw as ArrayDraw, Look as ArrayLook, Shut, Pass}
use Rattle.ticket_core.specs.declared.array_lock.ArrayOutcome.{ArrayOutcome}
use Rattle.ticket_core.specs.declared.array_lock.ArrayOutcome.TheVariants.{Drew as ArrayDrew, Waits as ArrayWaits, Enters as ArrayEnters, Shuts, Passes, Nothing as ArrayNothing}
use Rattle.ticket_core.specs.TicketLock.{LockState}
use Rattle.ticket_core.specs.TicketSteps.{after_all, answers}

-- the outcome of a Draw or a Look: the ticket lock's of the same name
abbrev pub ticket_outcome : ArrayOutcome → Outcome
ticket_outcome (ArrayDrew t) = Drew t
ticket_outcome ArrayWaits = Waits
ticket_outcome (ArrayEnters t) = Enters t
ticket_outcome Shuts = Nothing
ticket_outcome Passes = Leaves
ticket_outcome ArrayNothing = Nothing

-- an event with its outcome: a Pass that passes is a Leave that leaves, and each other Shut or Pass is no event
abbrev pub ticket_step : ArrayEvent → ArrayOutcome → Option (Event × Outcome)
ticket_step (ArrayDraw place) outcome = Some (Draw place, ticket_outcome outcome)
ticket_step (ArrayLook place) outcome = Some (Look place, ticket_outcome outcome)
ticket_step (Shut place) outcome = None
ticket_step (Pass place) Passes = Some (Leave place, Leaves)
ticket_step (Pass place) _ = None

-- a run, given as its events and their outcomes
abbrev pub ticket_run : List ArrayEvent → List ArrayOutcome → List (Event × Outcome)
ticket_run events outcomes = filter_map (λ x. ticket_step x.0 x.1) (zip events outcomes)

-- these events with these outcomes lead the ticket lock from one state to the other
pub record IsTicketRun (before : LockState) (steps : List (Event × Outcome)) (after : LockState) : Type 0 where
  -- the events lead from the one state to the other
  pub state : after_all before (map (λ x. x.0) steps) ≡ after
  -- the events have these outcomes
  pub outcomes : answers before (map (λ x. x.0) steps) ≡ map (λ x. x.1) steps
