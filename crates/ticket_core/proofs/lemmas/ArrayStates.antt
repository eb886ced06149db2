-- Each event of the array lock leads from a lawful state, its flags a list, to a lawful one.
use Rattle.std.proofs.Common.{◌≡◌, ℕ, ◌+◌, ◌<◌, ◌≤◌, Bool, true, false, length, set, replicate, sym, refl, ap, ◌∙◌, arith, length-set, get_or-set_other, get_or-set_same}
use Rattle.std.specs.Prelude.{◌==◌}
use Rattle.std.proofs.lemmas.Bool.Decides.{nat_tests}
use mathlib.Core.Logic.{dite}
use native.Mathlib.Decide.{ℕ_discrete}
use Rattle.ticket_core.proofs.Places.{get_or-replicate_same}
use Rattle.ticket_core.proofs.lemmas.ArrayLawful.{phase_is, array_opens, array_draws, array_enters, array_shuts, array_passes}
use Rattle.ticket_core.specs.declared.array_lock.ArrayPhase.TheVariants.{Away, Waiting, Inside, Leaving}
use Rattle.ticket_core.specs.TicketLock.{ticket_of}
use Rattle.ticket_core.specs.ArrayLock.{ArrayState, array_phase_at, flag_at, flag_of, IsLawfulArrayState}
use Rattle.ticket_core.specs.ArraySteps.{new_array_lock}

module _ (s : ArrayState) (w : ℕ) (law : IsLawfulArrayState s) where
  -- a place that was away waits with the next ticket
  pub state_draws : w < length s.phases → array_phase_at s.phases w ≡ Away
      → IsLawfulArrayState (record { next = s.next + 1; flags = s.flags; phases = set s.phases w (Waiting s.next) })
  state_draws room away = record {
    all_flags = law.all_flags;
    lawful = array_draws s.next (flag_at s.flags) s.phases w law.lawful room away;
  }

  -- a place that waited at an open flag is inside
  pub state_enters : (t : ℕ) → array_phase_at s.phases w ≡ Waiting t → flag_at s.flags (flag_of t) ≡ true
      → IsLawfulArrayState (record { next = s.next; flags = s.flags; phases = set s.phases w (Inside t) })
  state_enters t waits on = record {
    all_flags = law.all_flags;
    lawful = array_enters s.next (flag_at s.flags) s.phases w law.lawful t waits on;
  }

  -- a flag that was written is there, and is as it was written
  flag_written : (t : ℕ) (b : Bool) → flag_at (set s.flags (flag_of t) b) (flag_of t) ≡ b
  flag_written t b = let all = law.all_flags in get_or-set_same s.flags (flag_of t) b false (omega arith)

  -- a place that was inside is leaving, and the flag of its ticket is shut
  pub state_shuts : (t : ℕ) → array_phase_at s.phases w ≡ Inside t
      → IsLawfulArrayState (record { next = s.next; flags = set s.flags (flag_of t) false; phases = set s.phases w (Leaving t) })
  state_shuts t inside = record {
    all_flags = length-set s.flags (flag_of t) false ∙ law.all_flags;
    lawful = array_shuts s.next (flag_at s.flags) s.phases w law.lawful t (flag_at (set s.flags (flag_of t) false)) inside
        (flag_written t false) (λ i other. get_or-set_other s.flags (flag_of t) i false false other);
  }

  -- a place that was leaving is away, and the flag of the next ticket is open
  pub state_passes : (t : ℕ) → array_phase_at s.phases w ≡ Leaving t
      → IsLawfulArrayState (record { next = s.next; flags = set s.flags (flag_of (t + 1)) true; phases = set s.phases w Away })
  state_passes t leaving = record {
    all_flags = length-set s.flags (flag_of (t + 1)) true ∙ law.all_flags;
    lawful = array_passes s.next (flag_at s.flags) s.phases w law.lawful t (flag_at (set s.flags (flag_of (t + 1)) true)) leaving
        (flag_written (t + 1) true) (λ i other. get_or-set_other s.flags (flag_of (t + 1)) i true false other);
  }

  -- the ticket of a place that is leaving was drawn, so it is below `next`
  pub leaving_below_next : (t : ℕ) → array_phase_at s.phases w ≡ Leaving t → t < s.next
  leaving_below_next t leaving = (law.lawful.tickets.within w t (ap ticket_of (phase_is s.phases w (Leaving t) leaving))).1

-- of the flags of a new lock flag 0 alone is open
first_open : (i : ℕ) → flag_at (set (replicate 64 false) 0 true) i ≡ (i == 0)
first_open i = dite (ℕ_discrete i 0)
    (λ first. ap (flag_at (set (replicate 64 false) 0 true)) first ∙ ap (λ (k : ℕ). k == 0) (sym first))
    (λ other. get_or-set_other (replicate 64 false) 0 i true false other
    ∙ (get_or-replicate_same 64 i false ∙ (let off : (i == 0) ≡ false = grind (arith, nat_tests) in sym off)))

-- a new lock is lawful
pub new_array_lawful : (places : ℕ) → places ≤ 64 → IsLawfulArrayState (new_array_lock places)
new_array_lawful places few = record {
  all_flags = refl;
  lawful = array_opens places (flag_at (new_array_lock places).flags) few (λ i small. first_open i);
}
