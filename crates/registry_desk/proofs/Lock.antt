-- The pure lock that the words and the views show: each step of a seat is its event there, and so keeps it lawful.
use Rattle.std.proofs.Common.{◌≡◌, ℕ, zero, suc, ◌+◌, ◌-◌, ◌%◌, ◌^◌, ◌<◌, ◌≢◌, Bool, true, false, cond, ◌&&◌, List, [], ◌∷◌, ◌++◌, map, length, get_or, set, replicate, sym, refl, ap, ◌∙◌, subst, arith, length-append, get_or-set_other, get_or-set_same}
use Rattle.std.specs.Prelude.{◌==◌, nat_lt}
use Rattle.std.proofs.lemmas.List.{map-set}
use Rattle.std.proofs.lemmas.List.Sums.{sum_by_push}
use Rattle.std.proofs.lemmas.Bool.Decides.{nat_tests}
use mathlib.Core.List.{map-append}
use mathlib.Core.Option.{some}
use lib.ListN.{get_elem?}
use Rattle.atomic_table.proofs.Lists.{at_map, set_again}
use Rattle.ticket_core.specs.declared.array_lock.ArrayPhase.{ArrayPhase}
use Rattle.ticket_core.specs.declared.array_lock.ArrayPhase.TheVariants.{Away, Waiting, Inside, Leaving}
use Rattle.ticket_core.specs.declared.array_lock.ArrayEvent.{ArrayEvent}
use Rattle.ticket_core.specs.declared.array_lock.ArrayEvent.TheVariants.{Draw, Look, Shut, Pass}
use Rattle.ticket_core.specs.declared.array_lock.ArrayOutcome.{ArrayOutcome}
use Rattle.ticket_core.specs.declared.array_lock.ArrayOutcome.TheVariants.{Drew, Waits, Enters, Shuts, Passes, Nothing}
use Rattle.ticket_core.specs.ArrayLock.{ArrayState, array_phase_at, flag_at, flag_of, ticket_phase, serving_of, ticket_state, IsLawfulArrayState}
use Rattle.ticket_core.specs.ArraySteps.{new_array_lock, array_answer, array_draw_answer, array_look_answer, array_shut_answer, array_pass_answer}
use Rattle.ticket_core.specs.declared.ticket_lock.Phase.{Phase}
use Rattle.ticket_core.specs.declared.ticket_lock.Phase.TheVariants.{Away as TicketAway}
use Rattle.ticket_core.specs.TicketLock.{LockState, IsLawful, phase_at, ticket_of, tickets_out}
use Rattle.ticket_core.specs.TicketSteps.{greatest_next}
use Rattle.ticket_core.proofs.lemmas.TicketLawful.{nobody_inside, tickets_of}
use Rattle.ticket_core.proofs.lemmas.ArrayLawful.{phase_is, open_is_served}
use Rattle.ticket_core.proofs.lemmas.ArrayRuns.{array_steps, array_lawful_one_inside}
use Rattle.ticket_core.proofs.lemmas.ArrayStates.{new_array_lawful}
use Rattle.work_registry.specs.EntryValue.{EntryValue}
use Rattle.registry_desk.specs.declared.view.View.{View}
use Rattle.registry_desk.specs.Views.{phase_of, drawn, looked, entered, shut, passed}
use Rattle.registry_desk.specs.Rule.{is_open, flags_of, shown_lock, NobodyInside}
use Rattle.registry_desk.proofs.Lists.{within, read}

-- the phase that the lock shows of a seat
pub phase_shown : (views : List View) (i : ℕ) (v : View) → get_elem? views i ≡ some v → array_phase_at (map phase_of views) i ≡ v.phase
phase_shown views i v at = read (map phase_of views) i v.phase Away (at_map phase_of views i v at)

-- a seat has its place in the lock
pub place_there : (views : List View) (i : ℕ) (v : View) → get_elem? views i ≡ some v → i < length (map phase_of views)
place_there views i v at = within (map phase_of views) i v.phase (at_map phase_of views i v at)

flag_shown : (words : List ℕ) (i : ℕ) → get_or (map is_open words) i false ≡ is_open (get_or words i 0)
flag_shown [] i = refl
flag_shown (w ∷ ws) zero = refl
flag_shown (w ∷ ws) (suc i) = flag_shown ws i

one_more : (i : ℕ) → suc i ≡ i + 1
one_more i = omega arith

-- the flag that the lock shows is in the next word
pub flag_read : (words : List ℕ) (i : ℕ) → flag_at (flags_of words) i ≡ is_open (get_or words (i + 1) 0)
flag_read [] i = refl
flag_read (w ∷ ws) i = flag_shown ws i ∙ ap (λ (k : ℕ). is_open (get_or (w ∷ ws) k 0)) (one_more i)

-- a write to the next word is a write to the flag
flags_written : (words : List ℕ) (i x : ℕ) → flags_of (set words (i + 1) x) ≡ set (flags_of words) i (is_open x)
flags_written [] i x = refl
flags_written (w ∷ ws) i x = ap (λ (k : ℕ). flags_of (set (w ∷ ws) k x)) (sym (one_more i)) ∙ map-set is_open ws i x

-- a write to word 0 is a write to none
flags_kept : (words : List ℕ) (x : ℕ) → flags_of (set words 0 x) ≡ flags_of words
flags_kept [] x = refl
flags_kept (w ∷ ws) x = refl

-- a lock is shown where its parts are
shows : (words : List ℕ) (views : List View) (next : ℕ) (flags : List Bool) (phases : List ArrayPhase)
    → next ≡ get_or words 0 0 → flags ≡ flags_of words → phases ≡ map phase_of views
    → ◌≡◌ {A = ArrayState} (record { next = next; flags = flags; phases = phases }) (shown_lock words views)
shows words views next flags phases a b c = λ i. record { next = a i; flags = b i; phases = c i }

-- the state after an event is lawful
pub lawful_after : (s s' : ArrayState) (e : ArrayEvent) (o : ArrayOutcome) → array_answer s e ≡ (s', o) → IsLawfulArrayState s → IsLawfulArrayState s'
lawful_after s s' e o is law = subst IsLawfulArrayState (ap (λ (a : ArrayState × ArrayOutcome). a.0) is) (array_steps s e law).lawful

module _ (words : List ℕ) (views : List View) (id : ℕ) (v : View) (at : get_elem? views id ≡ some v) where
  abbrev L : ArrayState
  L = shown_lock words views

  abbrev n : ℕ
  n = get_or words 0 0

  phases_after : (w : View) → set (map phase_of views) id w.phase ≡ map phase_of (set views id w)
  phases_after w = sym (map-set phase_of views id w)

  -- a seat draws
  pub draw_event : 0 < length words → n < greatest_next → v.phase ≡ Away
      → array_answer L (Draw id) ≡ (shown_lock (set words 0 ((n + 1) % 2 ^ 64)) (set views id (drawn v n)), Drew n)
  draw_event some_word below away =
      let there = place_there views id v at in
      let test : (nat_lt id (length L.phases) && nat_lt L.next greatest_next) ≡ true = grind (arith, nat_tests) in
      let up : (n + 1) % 2 ^ 64 ≡ n + 1 = omega arith in let words' : List ℕ = set words 0 ((n + 1) % 2 ^ 64) in
      let next : n + 1 ≡ get_or words' 0 0 = sym (get_or-set_same words 0 ((n + 1) % 2 ^ 64) 0 some_word ∙ up) in
      ap (λ (b : Bool). cond b (array_draw_answer L id (array_phase_at L.phases id)) (L, Nothing)) test
      ∙ (ap (array_draw_answer L id) (phase_shown views id v at ∙ away)
      ∙ ap (λ (s : ArrayState). (s, Drew n)) (shows words' (set views id (drawn v n)) (n + 1) (flags_of words) (set L.phases id (Waiting n)) next (sym (flags_kept words ((n + 1) % 2 ^ 64))) (phases_after (drawn v n))))

  -- what a seat that waits with this ticket is answered
  looks_at : (t : ℕ) (b : Bool) → v.phase ≡ Waiting t → is_open (get_or words (flag_of t + 1) 0) ≡ b
      → array_answer L (Look id) ≡ cond b (record L { phases = set L.phases id (Inside t) }, Enters t) (L, Waits)
  looks_at t b waits on =
      ap (array_look_answer L id) (phase_shown views id v at ∙ waits)
      ∙ ap (λ (c : Bool). cond c (record L { phases = set L.phases id (Inside t) }, Enters t) (L, Waits)) (flag_read words (flag_of t) ∙ on)

  -- a seat reads that its flag is open
  pub enter_event : (t : ℕ) (history : List EntryValue) → v.phase ≡ Waiting t → is_open (get_or words (flag_of t + 1) 0) ≡ true
      → array_answer L (Look id) ≡ (shown_lock words (set views id (entered v t history)), Enters t)
  enter_event t history waits on = looks_at t true waits on
      ∙ ap (λ (s : ArrayState). (s, Enters t)) (shows words (set views id (entered v t history)) n L.flags (set L.phases id (Inside t)) refl refl (phases_after (entered v t history)))

  -- a seat reads that its flag is shut
  pub wait_event : (t found : ℕ) → v.phase ≡ Waiting t → is_open (get_or words (flag_of t + 1) 0) ≡ false
      → array_answer L (Look id) ≡ (shown_lock words (set views id (looked v found)), Waits)
  wait_event t found waits off = looks_at t false waits off
      ∙ ap (λ (s : ArrayState). (s, Waits)) (shows words (set views id (looked v found)) n L.flags L.phases refl refl
      (sym (set_again L.phases id v.phase (at_map phase_of views id v at)) ∙ phases_after (looked v found)))

  -- the next ticket stays where a flag is written
  next_kept : (k x : ℕ) → n ≡ get_or (set words (k + 1) x) 0 0
  next_kept k x = sym (get_or-set_other words (k + 1) 0 x 0 (λ e. omega arith))

  -- a seat shuts its flag
  pub shut_event : (t : ℕ) (full : Bool) (history : List EntryValue) → v.phase ≡ Inside t
      → array_answer L (Shut id) ≡ (shown_lock (set words (flag_of t + 1) 0) (set views id (shut v t full history)), Shuts)
  shut_event t full history inside = let words' : List ℕ = set words (flag_of t + 1) 0 in
      ap (array_shut_answer L id) (phase_shown views id v at ∙ inside)
      ∙ ap (λ (s : ArrayState). (s, Shuts)) (shows words' (set views id (shut v t full history)) n (set L.flags (flag_of t) false) (set L.phases id (Leaving t))
      (next_kept (flag_of t) 0) (sym (flags_written words (flag_of t) 0)) (phases_after (shut v t full history)))

  -- a seat opens the next flag
  pub pass_event : (t : ℕ) → v.phase ≡ Leaving t
      → array_answer L (Pass id) ≡ (shown_lock (set words (flag_of (t + 1) + 1) 1) (set views id (passed v)), Passes)
  pass_event t leaving = let words' : List ℕ = set words (flag_of (t + 1) + 1) 1 in
      ap (array_pass_answer L id) (phase_shown views id v at ∙ leaving)
      ∙ ap (λ (s : ArrayState). (s, Passes)) (shows words' (set views id (passed v)) n (set L.flags (flag_of (t + 1)) true) (set L.phases id Away)
      (next_kept (flag_of (t + 1)) 1) (sym (flags_written words (flag_of (t + 1)) 1)) (phases_after (passed v)))

  -- where a seat waits before an open flag, nobody is inside
  pub nobody_in : (t : ℕ) → IsLawfulArrayState L → v.phase ≡ Waiting t → is_open (get_or words (flag_of t + 1) 0) ≡ true → NobodyInside views
  nobody_in t law waits on i u x there inside = let ps : List ArrayPhase = map phase_of views in
      let mine = phase_shown views id v at ∙ waits in
      nobody_inside (ticket_state n ps) id law.lawful.tickets t (phase_is ps id (Waiting t) mine) (open_is_served n (flag_at L.flags) ps id law.lawful t mine (flag_read words (flag_of t) ∙ on))
      i u (phase_is ps i (Inside u) (phase_shown views i x there ∙ inside))

  -- where a seat is inside, no other is
  pub alone : (t : ℕ) → IsLawfulArrayState L → v.phase ≡ Inside t → (j u : ℕ) (x : View) → j ≢ id → get_elem? views j ≡ some x → x.phase ≡ Inside u → ⊥
  alone t law inside j u x ne there within_too = let ps : List ArrayPhase = map phase_of views in
      ne (array_lawful_one_inside L law j id u t (phase_is ps j (Inside u) (phase_shown views j x there ∙ within_too)) (phase_is ps id (Inside t) (phase_shown views id v at ∙ inside)))

-- one place more, where nobody is
pub away_more : (ps : List ArrayPhase) (w : ℕ) → array_phase_at (ps ++ Away ∷ []) w ≡ array_phase_at ps w
away_more [] zero = refl
away_more [] (suc w) = refl
away_more (p ∷ ps) zero = refl
away_more (p ∷ ps) (suc w) = away_more ps w

ticket_away_more : (ps : List Phase) (w : ℕ) → phase_at (ps ++ TicketAway ∷ []) w ≡ phase_at ps w
ticket_away_more [] zero = refl
ticket_away_more [] (suc w) = refl
ticket_away_more (p ∷ ps) zero = refl
ticket_away_more (p ∷ ps) (suc w) = ticket_away_more ps w

tickets_more : (next serving : ℕ) (ps : List Phase) → IsLawful (record { next = next; serving = serving; phases = ps })
    → IsLawful (record { next = next; serving = serving; phases = ps ++ TicketAway ∷ [] })
tickets_more next serving ps law = record {
  distinct = λ v w t a b. law.distinct v w t (ap ticket_of (sym (ticket_away_more ps v)) ∙ a) (ap ticket_of (sym (ticket_away_more ps w)) ∙ b);
  within = λ w t a. law.within w t (ap ticket_of (sym (ticket_away_more ps w)) ∙ a);
  as_many = let e = sum_by_push tickets_of ps TicketAway in let m = law.as_many in omega arith;
  served = λ w t a. law.served w t (sym (ticket_away_more ps w) ∙ a);
}

ticket_state-more : (next : ℕ) (ps : List ArrayPhase)
    → ticket_state next (ps ++ Away ∷ []) ≡ record { next = next; serving = serving_of next ps; phases = map ticket_phase ps ++ TicketAway ∷ [] }
ticket_state-more next ps = let longer : map ticket_phase (ps ++ Away ∷ []) ≡ map ticket_phase ps ++ TicketAway ∷ [] = map-append ticket_phase ps (Away ∷ []) in
    let out : tickets_out (map ticket_phase ps ++ TicketAway ∷ []) ≡ tickets_out (map ticket_phase ps) = let e = sum_by_push tickets_of (map ticket_phase ps) TicketAway in omega arith in
    let served : serving_of next (ps ++ Away ∷ []) ≡ serving_of next ps = ap (λ (k : ℕ). next - k) (ap tickets_out longer ∙ out) in
    λ i. record { next = next; serving = served i; phases = longer i }

-- a lock with one place more, where nobody is, is lawful
pub lock_more : (s : ArrayState) → IsLawfulArrayState s → length s.phases < 64
    → IsLawfulArrayState (record { next = s.next; flags = s.flags; phases = s.phases ++ Away ∷ [] })
lock_more s law room = let old = law.lawful in let same = ticket_state-more s.next s.phases in record {
  all_flags = law.all_flags;
  lawful = record {
    tickets = subst IsLawful (sym same) (tickets_more s.next (serving_of s.next s.phases) (map ticket_phase s.phases) old.tickets);
    few = let e = length-append s.phases (Away ∷ []) in omega arith;
    one_open = λ nobody i small. old.one_open (λ w t leaves. nobody w t (away_more s.phases w ∙ leaves)) i small
        ∙ ap (λ (t : LockState). i == flag_of t.serving) (sym same);
    none_open = λ w t leaves. old.none_open w t (sym (away_more s.phases w) ∙ leaves);
  };
}

-- of a new table flag 0 alone is open, and its one place is away
pub opens_lock : (words : List ℕ) (v : View) → words ≡ set (replicate 65 0) 1 1 → v.phase ≡ Away → IsLawfulArrayState (shown_lock words (v ∷ []))
opens_lock words v is away = let shown : new_array_lock 1 ≡ shown_lock words (v ∷ []) = λ i. record { next = get_or (sym is i) 0 0; flags = flags_of (sym is i); phases = sym away i ∷ [] } in
    subst IsLawfulArrayState shown (new_array_lawful 1 (omega arith))
