-- The state of the array-based queueing lock of Anderson (1990), how it reads as a ticket lock's, and when it is
-- lawful.
use Rattle.std.specs.Prelude.{◌≡◌, ℕ, ◌-◌, ◌%◌, ◌<◌, ◌≤◌, Bool, false, ◌==◌, List, length, map, slice_index_or}
use Rattle.ticket_core.specs.declared.ticket_lock.Phase.{Phase}
use Rattle.ticket_core.specs.declared.ticket_lock.Phase.TheVariants.{Away, Waiting, Inside}
use Rattle.ticket_core.specs.declared.array_lock.ArrayPhase.{ArrayPhase}
use Rattle.ticket_core.specs.declared.array_lock.ArrayPhase.TheVariants.{Away as ArrayAway, Waiting as ArrayWaiting, Inside as ArrayInside, Leaving}
use Rattle.ticket_core.specs.TicketLock.{LockState, IsLawful, tickets_out}

-- the state of the array lock: the ticket that is drawn next, which of the 64 flags are open, and the phase of each
-- place
pub record ArrayState : Type 0 where
  pub next : ℕ
  -- for each of the 64 flags whether it is open
  pub flags : List Bool
  pub phases : List ArrayPhase

-- the phase of a place, counted from 0, and `Away` where there is no such place
abbrev pub array_phase_at : List ArrayPhase → ℕ → ArrayPhase
array_phase_at phases place = slice_index_or phases place ArrayAway

-- whether flag i, counted from 0, is open
abbrev pub flag_at : List Bool → ℕ → Bool
flag_at flags i = slice_index_or flags i false

-- the flag of a ticket: the ticket modulo 64
abbrev pub flag_of : ℕ → ℕ
flag_of t = t % 64

-- the phase of a place as the ticket lock has it: a place that is leaving is still inside
abbrev pub ticket_phase : ArrayPhase → Phase
ticket_phase ArrayAway = Away
ticket_phase (ArrayWaiting t) = Waiting t
ticket_phase (ArrayInside t) = Inside t
ticket_phase (Leaving t) = Inside t

-- the ticket that is served: `next` less the number of places that have a ticket
abbrev pub serving_of : ℕ → List ArrayPhase → ℕ
serving_of next phases = next - tickets_out (map ticket_phase phases)

-- the state of the ticket lock that a state of the array lock stands for
abbrev pub ticket_state : ℕ → List ArrayPhase → LockState
ticket_state next phases = record { next = next; serving = serving_of next phases; phases = map ticket_phase phases }

-- no place is leaving: between closing its own flag and opening the next
abbrev pub NobodyLeaves : List ArrayPhase → Type 0
NobodyLeaves phases = (place t : ℕ) → array_phase_at phases place ≡ Leaving t → ⊥

-- At most 64 places, in a lawful state of the ticket lock. While no place is leaving, the flag of the served ticket
-- alone is open, and while one is, no flag is. `is_open` says of each of the 64 flags whether it is open.
pub record IsArrayLawful (next : ℕ) (is_open : ℕ → Bool) (phases : List ArrayPhase) : Type 0 where
  pub tickets : IsLawful (ticket_state next phases)
  pub few : length phases ≤ 64
  -- while no place is leaving, the served ticket's flag alone is open
  pub one_open : NobodyLeaves phases → (i : ℕ) → i < 64 → is_open i ≡ (i == flag_of (serving_of next phases))
  -- while a place is leaving, no flag is open
  pub none_open : (place t : ℕ) → array_phase_at phases place ≡ Leaving t → (i : ℕ) → i < 64 → is_open i ≡ false

-- there are 64 flags, and the state is lawful
pub record IsLawfulArrayState (s : ArrayState) : Type 0 where
  pub all_flags : length s.flags ≡ 64
  pub lawful : IsArrayLawful s.next (flag_at s.flags) s.phases
