-- The state of the ticket lock of Mellor-Crummey and Scott (1991), and when it is lawful.
use Rattle.std.specs.Prelude.{◌≡◌, ℕ, ◌+◌, ◌<◌, ◌≤◌, List, Option, Some, None, count_by, is_some, slice_index_or}
use Rattle.ticket_core.specs.declared.ticket_lock.Phase.{Phase}
use Rattle.ticket_core.specs.declared.ticket_lock.Phase.TheVariants.{Away, Waiting, Inside}

-- the state of the ticket lock: the ticket that is drawn next, the ticket that is served, and the phase of each place
pub record LockState : Type 0 where
  pub next : ℕ
  pub serving : ℕ
  pub phases : List Phase

-- the phase of a place, counted from 0, and `Away` where there is no such place
abbrev pub phase_at : List Phase → ℕ → Phase
phase_at phases place = slice_index_or phases place Away

-- the ticket that a place in this phase has, waiting or inside; `None` where it is away
abbrev pub ticket_of : Phase → Option ℕ
ticket_of Away = None
ticket_of (Waiting t) = Some t
ticket_of (Inside t) = Some t

-- the number of places that have a ticket
abbrev pub tickets_out : List Phase → ℕ
tickets_out phases = count_by (λ p. is_some (ticket_of p)) phases

-- A lawful state: the tickets out are distinct, they lie from `serving` up to but not including `next`, they are as
-- many as `next` less `serving`, and a place that is inside has the ticket `serving`.
pub record IsLawful (s : LockState) : Type 0 where
  -- no two places have one ticket
  pub distinct : (v w t : ℕ) → ticket_of (phase_at s.phases v) ≡ Some t → ticket_of (phase_at s.phases w) ≡ Some t
      → v ≡ w
  -- each ticket is at least `serving` and below `next`
  pub within : (w t : ℕ) → ticket_of (phase_at s.phases w) ≡ Some t → (s.serving ≤ t) × (t < s.next)
  pub as_many : tickets_out s.phases + s.serving ≡ s.next
  -- the ticket of a place that is inside is the served one
  pub served : (w t : ℕ) → phase_at s.phases w ≡ Inside t → t ≡ s.serving

-- at most one place is inside
abbrev pub AtMostOneInside : List Phase → Type 0
AtMostOneInside phases = (v w t u : ℕ) → phase_at phases v ≡ Inside t → phase_at phases w ≡ Inside u → v ≡ w
