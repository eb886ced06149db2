-- The pure lock and the history together, over runs of any events of any places in any order. Place s is that of
-- session s.
use Rattle.std.specs.Prelude.{ℕ, Bool, true, false, if◌then◌else◌, ◌==◌, List, [], ◌∷◌, ◌++◌}
use Rattle.ticket_core.specs.declared.array_lock.ArrayPhase.{ArrayPhase}
use Rattle.ticket_core.specs.declared.array_lock.ArrayPhase.TheVariants.{Inside}
use Rattle.ticket_core.specs.declared.array_lock.ArrayEvent.{ArrayEvent}
use Rattle.ticket_core.specs.declared.array_lock.ArrayOutcome.{ArrayOutcome}
use Rattle.ticket_core.specs.declared.array_lock.ArrayOutcome.TheVariants.{Enters}
use Rattle.ticket_core.specs.ArrayLock.{ArrayState, array_phase_at}
use Rattle.ticket_core.specs.ArraySteps.{array_answer}
use Rattle.cwr_call.specs.CallValue.{CallValue}
use Rattle.work_registry.specs.EntryValue.{EntryValue}
use Rattle.work_registry.specs.Replay.{entry_for}

-- a lock state, a history, and whether the place that is inside has added its entry
pub record World : Type 0 where
  pub lock : ArrayState
  pub history : List EntryValue
  -- whether the place that is inside has added its entry
  pub used : Bool

-- an event of the lock, or a call that a place applies
pub data WorldEvent : Type 0 where
  locks : ArrayEvent → WorldEvent
  applies : ℕ → CallValue → WorldEvent

-- whether the place that is inside has added its entry, after this outcome: one that enters has added none yet
abbrev pub used_after : Bool → ArrayOutcome → Bool
used_after used (Enters t) = false
used_after used _ = used

-- what a call of a place in this phase adds: where it is inside and has added none yet, one entry with the registry's
-- reply
abbrev pub added_at : World → ℕ → CallValue → ArrayPhase → List EntryValue
added_at w place call (Inside t) = if w.used then [] else entry_for place w.history call ∷ []
added_at w place call _ = []

-- whether the place that is inside has added its entry, after a call of a place in this phase
abbrev pub used_at : World → ArrayPhase → Bool
used_at w (Inside t) = true
used_at w _ = w.used

-- the entries that an event adds
abbrev pub added : World → WorldEvent → List EntryValue
added w (locks e) = []
added w (applies place call) = added_at w place call (array_phase_at w.lock.phases place)

-- the world after an event
abbrev pub world_after : World → WorldEvent → World
world_after w (locks e) = let a = array_answer w.lock e in
    record { lock = a.0; history = w.history; used = used_after w.used a.1 }
world_after w (applies place call) = record {
  lock = w.lock;
  history = w.history ++ added w (applies place call);
  used = used_at w (array_phase_at w.lock.phases place);
}

-- the world after a run, which is a list of events
abbrev pub run_world : World → List WorldEvent → World
run_world w [] = w
run_world w (e ∷ es) = run_world (world_after w e) es

-- the event is a call of this place
abbrev pub is_call_of : ℕ → WorldEvent → Bool
is_call_of place (locks e) = false
is_call_of place (applies p call) = p == place

-- the entries that the calls of one place add in a run, in order
abbrev pub added_in : World → ℕ → List WorldEvent → List EntryValue
added_in w place [] = []
added_in w place (e ∷ es) = (if is_call_of place e then added w e else []) ++ added_in (world_after w e) place es
