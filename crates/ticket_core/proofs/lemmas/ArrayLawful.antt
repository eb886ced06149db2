-- Each event of the array lock leads from a lawful state to a lawful one, and an open flag is that of the served ticket.
-- The flags are a function, so that they can be read off whatever keeps them.
use Rattle.std.proofs.Common.{◌≡◌, ℕ, zero, suc, ◌+◌, ◌%◌, ◌<◌, ◌≤◌, ◌≢◌, Bool, true, false, Some, List, [], ◌∷◌, map, length, get_or, set, replicate, sym, refl, ap, ◌∙◌, subst, arith, length-set, get_or-set_other, get_or-set_same}
use Rattle.std.specs.Prelude.{◌==◌, is_some}
use Rattle.std.proofs.lemmas.List.{map-set, length-map, length-replicate, set-get_or}
use Rattle.std.proofs.lemmas.List.Sums.{count_by-le-length}
use Rattle.std.proofs.lemmas.Bool.Decides.{nat_tests}
use mathlib.Core.Logic.{dite}
use native.Mathlib.Decide.{ℕ_discrete}
use Rattle.ticket_core.proofs.Places.{at_write, get_or-replicate_same}
use Rattle.ticket_core.proofs.lemmas.TicketLawful.{HasTicket, is_there, draws, enters, leaves, new_lawful}
use Rattle.ticket_core.specs.declared.ticket_lock.Phase.{Phase}
use Rattle.ticket_core.specs.declared.ticket_lock.Phase.TheVariants.{Away as TicketAway, Waiting as TicketWaiting, Inside as TicketInside}
use Rattle.ticket_core.specs.declared.array_lock.ArrayPhase.{ArrayPhase}
use Rattle.ticket_core.specs.declared.array_lock.ArrayPhase.TheVariants.{Away, Waiting, Inside, Leaving}
use Rattle.ticket_core.specs.TicketLock.{LockState, IsLawful, phase_at, ticket_of, tickets_out}
use Rattle.ticket_core.specs.TicketSteps.{new_lock}
use Rattle.ticket_core.specs.ArrayLock.{array_phase_at, flag_of, ticket_phase, serving_of, ticket_state, NobodyLeaves, IsArrayLawful}

-- two numbers less than 64 apart that share a flag are one number
one_turn : (a b : ℕ) → a ≤ b → b < a + 64 → a % 64 ≡ b % 64 → a ≡ b
one_turn a b low high same = omega arith

-- a flag that is one passes the test
same_flag : (i k : ℕ) → i ≡ k → (i == k) ≡ true
same_flag i k same = grind (arith, nat_tests)

-- and one that is another does not
other_flag : (i k : ℕ) → i ≢ k → (i == k) ≡ false
other_flag i k other = grind (arith, nat_tests)

-- writing what stands there changes nothing
pub set-same : (l : List Phase) (w : ℕ) (p d : Phase) → get_or l w d ≡ p → set l w p ≡ l
set-same l w p d is = ap (λ (q : Phase). set l w q) (sym is) ∙ set-get_or l w d

-- a place's phase in the ticket lock
pub phase_at-ticket_phase : (ps : List ArrayPhase) (w : ℕ) → phase_at (map ticket_phase ps) w ≡ ticket_phase (array_phase_at ps w)
phase_at-ticket_phase [] w = refl
phase_at-ticket_phase (p ∷ ps) zero = refl
phase_at-ticket_phase (p ∷ ps) (suc w) = phase_at-ticket_phase ps w

-- the same, where the phase is known
pub phase_is : (ps : List ArrayPhase) (w : ℕ) (p : ArrayPhase) → array_phase_at ps w ≡ p → phase_at (map ticket_phase ps) w ≡ ticket_phase p
phase_is ps w p is = phase_at-ticket_phase ps w ∙ ap ticket_phase is

-- a place that has a ticket is there
pub is_array_there : (ps : List ArrayPhase) (w : ℕ) (p : ArrayPhase) (t : ℕ) → array_phase_at ps w ≡ p → HasTicket t (ticket_phase p)
    → w < length ps
is_array_there ps w p t is has = let there = is_there (map ticket_phase ps) w t (ap ticket_of (phase_is ps w p is) ∙ has) in
    let same : length (map ticket_phase ps) ≡ length ps = length-map ps ticket_phase in omega arith

-- the ticket lock's state, once a place is in another phase
abbrev pub moved_state : ℕ → ℕ → List ArrayPhase → ℕ → Phase → LockState
moved_state next serving ps w p = record { next = next; serving = serving; phases = set (map ticket_phase ps) w p }

-- where that is lawful, it is what the array lock's state reads as, once its place is in the phase that reads so
pub ticket_state-set : (next serving w : ℕ) (ps : List ArrayPhase) (p : ArrayPhase) → IsLawful (moved_state next serving ps w (ticket_phase p))
    → ticket_state next (set ps w p) ≡ moved_state next serving ps w (ticket_phase p)
ticket_state-set next serving w ps p law = let moved = map-set ticket_phase ps w p in let many = law.as_many in
    let out : tickets_out (map ticket_phase (set ps w p)) ≡ tickets_out (set (map ticket_phase ps) w (ticket_phase p)) = ap tickets_out moved in
    let served : serving_of next (set ps w p) ≡ serving = omega arith in
    let S : ℕ → List Phase → LockState = λ k l. record { next = next; serving = k; phases = l } in
    ap (λ (k : ℕ). S k (map ticket_phase (set ps w p))) served ∙ ap (S serving) moved

-- so the served ticket is its served ticket
pub serving_of-set : (next serving w : ℕ) (ps : List ArrayPhase) (p : ArrayPhase) → IsLawful (moved_state next serving ps w (ticket_phase p))
    → serving_of next (set ps w p) ≡ serving
serving_of-set next serving w ps p law = ap (λ (s : LockState). s.serving) (ticket_state-set next serving w ps p law)

-- and the state that is read is lawful
moved_lawful : (next serving w : ℕ) (ps : List ArrayPhase) (p : ArrayPhase) → IsLawful (moved_state next serving ps w (ticket_phase p))
    → IsLawful (ticket_state next (set ps w p))
moved_lawful next serving w ps p law = subst IsLawful (sym (ticket_state-set next serving w ps p law)) law

-- places that are away are away in the ticket lock
map-ticket_phase-replicate : (n : ℕ) → map ticket_phase (replicate n Away) ≡ replicate n TicketAway
map-ticket_phase-replicate zero = refl
map-ticket_phase-replicate (suc n) = ap (λ (l : List Phase). TicketAway ∷ l) (map-ticket_phase-replicate n)

-- with no ticket drawn and every place away, the state reads as that of a new ticket lock
pub ticket_state-new : (places : ℕ) → ticket_state 0 (replicate places Away) ≡ new_lock places
ticket_state-new places = let S : ℕ → List Phase → LockState = λ k l. record { next = 0; serving = k; phases = l } in
    let none : serving_of 0 (replicate places Away) ≡ 0 = omega arith in
    ap (λ (k : ℕ). S k (map ticket_phase (replicate places Away))) none ∙ ap (S 0) (map-ticket_phase-replicate places)

-- and with flag 0 alone open it is lawful
pub array_opens : (places : ℕ) (is_open : ℕ → Bool) → places ≤ 64 → ((i : ℕ) → i < 64 → is_open i ≡ (i == 0))
    → IsArrayLawful 0 is_open (replicate places Away)
array_opens places is_open few first =
    let none : serving_of 0 (replicate places Away) ≡ 0 = ap (λ (s : LockState). s.serving) (ticket_state-new places) in
    record {
      tickets = subst IsLawful (sym (ticket_state-new places)) (new_lawful places);
      few = let long = length-replicate places Away in omega arith;
      one_open = λ nobody i small. first i small ∙ ap (λ (k : ℕ). i == flag_of k) (sym none);
      none_open = λ v t leaving. absurd (let clash : Away ≡ Leaving t = sym (get_or-replicate_same places v Away) ∙ leaving in cc);
    }

module _ (next : ℕ) (is_open : ℕ → Bool) (ps : List ArrayPhase) (w : ℕ) (law : IsArrayLawful next is_open ps) where
  -- the ticket that is served
  abbrev serving : ℕ
  serving = serving_of next ps

  -- the place w is not leaving
  abbrev Stays : Type 0
  Stays = (u : ℕ) → array_phase_at ps w ≡ Leaving u → ⊥

  -- all tickets out are in one turn of the flags
  spread : next ≤ serving + 64
  spread = let many = law.tickets.as_many in let few = law.few in
      let count = count_by-le-length (λ p. is_some (ticket_of p)) (map ticket_phase ps) in
      let same : length (map ticket_phase ps) ≡ length ps = length-map ps ticket_phase in omega arith

  -- who is leaving has the served ticket
  leaving_is_served : (v u : ℕ) → array_phase_at ps v ≡ Leaving u → HasTicket serving (phase_at (map ticket_phase ps) v)
  leaving_is_served v u leaving = let inside = phase_is ps v (Leaving u) leaving in ap ticket_of inside ∙ ap Some (law.tickets.served v u inside)

  -- so where a place that is not leaving has it, nobody is leaving
  nobody_leaves : (p : ArrayPhase) → array_phase_at ps w ≡ p → HasTicket serving (ticket_phase p) → Stays → NobodyLeaves ps
  nobody_leaves p is mine stays v u leaving =
      let same = law.tickets.distinct v w serving (leaving_is_served v u leaving) (ap ticket_of (phase_is ps w p is) ∙ mine) in
      stays u (ap (array_phase_at ps) (sym same) ∙ leaving)

  -- where nobody is leaving after a write to a place that was not, nobody was
  nobody_left : (p : ArrayPhase) → Stays → NobodyLeaves (set ps w p) → NobodyLeaves ps
  nobody_left p stays nobody v u leaving = dite (ℕ_discrete v w)
      (λ v_is_w. stays u (ap (array_phase_at ps) (sym v_is_w) ∙ leaving))
      (λ other. nobody v u (get_or-set_other ps w v p Away other ∙ leaving))

  -- who is leaving after a write of another phase is another place, and was leaving before
  was_leaving : (p : ArrayPhase) → w < length ps → ((u : ℕ) → p ≡ Leaving u → ⊥) → (v u : ℕ) → array_phase_at (set ps w p) v ≡ Leaving u
      → (v ≢ w) × (array_phase_at ps v ≡ Leaving u)
  was_leaving p room not_leaving v u leaving = at_write (λ q. q ≡ Leaving u) ps w v p Away room leaving
      (λ _ clash. absurd (not_leaving u clash))
      (λ other before. (other, before))

  -- where a flag is open, nobody is leaving
  open_to_somebody : (i : ℕ) → i < 64 → is_open i ≡ true → NobodyLeaves ps
  open_to_somebody i small on v u leaving = let off = law.none_open v u leaving i small in
      let clash : true ≡ false = sym on ∙ off in absurd (cc)

  -- whose flag is open has the served ticket
  pub open_is_served : (t : ℕ) → array_phase_at ps w ≡ Waiting t → is_open (flag_of t) ≡ true → t ≡ serving
  open_is_served t waits on =
      let range = law.tickets.within w t (ap ticket_of (phase_is ps w (Waiting t) waits)) in let turn = spread in
      let small : flag_of t < 64 = omega arith in
      let test = sym (law.one_open (open_to_somebody (flag_of t) small on) (flag_of t) small) ∙ on in
      let same : flag_of t ≡ flag_of serving = grind (arith, nat_tests) in
      sym (one_turn serving t range.0 (omega arith) (sym same))

  -- whose flag is shut has another ticket
  pub shut_is_not_served : (t : ℕ) → array_phase_at ps w ≡ Waiting t → is_open (flag_of t) ≡ false → t ≢ serving
  shut_is_not_served t waits off turn =
      let small : flag_of t < 64 = omega arith in
      let nobody = nobody_leaves (Waiting t) waits (ap Some turn) (λ u l. let clash : Waiting t ≡ Leaving u = sym waits ∙ l in absurd (cc)) in
      let test = sym (law.one_open nobody (flag_of t) small) ∙ off in
      let other : flag_of t ≢ flag_of serving = grind (arith, nat_tests) in
      other (ap flag_of turn)

  -- the ticket lock's state after a draw of a place that was away
  pub drawn : w < length ps → array_phase_at ps w ≡ Away → IsLawful (moved_state (next + 1) serving ps w (TicketWaiting next))
  drawn room away = let same : length (map ticket_phase ps) ≡ length ps = length-map ps ticket_phase in
      draws (ticket_state next ps) w law.tickets (omega arith) (phase_is ps w Away away)

  -- the same after a look of a place that waited at an open flag
  pub entered : (t : ℕ) → array_phase_at ps w ≡ Waiting t → is_open (flag_of t) ≡ true → IsLawful (moved_state next serving ps w (TicketInside t))
  entered t waits on = enters (ticket_state next ps) w law.tickets t (phase_is ps w (Waiting t) waits) (open_is_served t waits on)

  -- the same after a shut of a place that was inside: there it still is, and nothing has changed
  pub unmoved : (t : ℕ) → array_phase_at ps w ≡ Inside t → moved_state next serving ps w (TicketInside t) ≡ ticket_state next ps
  unmoved t inside = let S : List Phase → LockState = λ l. record { next = next; serving = serving; phases = l } in
      ap S (set-same (map ticket_phase ps) w (TicketInside t) TicketAway (phase_is ps w (Inside t) inside))

  -- so that state is lawful
  pub shut : (t : ℕ) → array_phase_at ps w ≡ Inside t → IsLawful (moved_state next serving ps w (TicketInside t))
  shut t inside = subst IsLawful (sym (unmoved t inside)) law.tickets

  -- the same after a pass of a place that was leaving
  pub passed : (t : ℕ) → array_phase_at ps w ≡ Leaving t → IsLawful (moved_state next (serving + 1) ps w TicketAway)
  passed t leaving = leaves (ticket_state next ps) w law.tickets t (phase_is ps w (Leaving t) leaving)

  -- a place that was away waits with the next ticket
  pub array_draws : w < length ps → array_phase_at ps w ≡ Away → IsArrayLawful (next + 1) is_open (set ps w (Waiting next))
  array_draws room away = let p : ArrayPhase = Waiting next in let after = drawn room away in
      let turn = serving_of-set (next + 1) serving w ps p after in
      record {
        tickets = moved_lawful (next + 1) serving w ps p after;
        few = let long = length-set ps w p in let few = law.few in omega arith;
        one_open = λ nobody i small.
            law.one_open (nobody_left p (λ u l. let clash : Away ≡ Leaving u = sym away ∙ l in absurd (cc)) nobody) i small
            ∙ ap (λ (k : ℕ). i == flag_of k) (sym turn);
        none_open = λ v u l. law.none_open v u (was_leaving p room (λ _ clash. absurd (cc)) v u l).1;
      }

  -- a place that waited at an open flag is inside
  pub array_enters : (t : ℕ) → array_phase_at ps w ≡ Waiting t → is_open (flag_of t) ≡ true → IsArrayLawful next is_open (set ps w (Inside t))
  array_enters t waits on = let p : ArrayPhase = Inside t in let room = is_array_there ps w (Waiting t) t waits refl in
      let after = entered t waits on in let turn = serving_of-set next serving w ps p after in
      record {
        tickets = moved_lawful next serving w ps p after;
        few = let long = length-set ps w p in let few = law.few in omega arith;
        one_open = λ nobody i small.
            law.one_open (nobody_left p (λ u l. let clash : Waiting t ≡ Leaving u = sym waits ∙ l in absurd (cc)) nobody) i small
            ∙ ap (λ (k : ℕ). i == flag_of k) (sym turn);
        none_open = λ v u l. law.none_open v u (was_leaving p room (λ _ clash. absurd (cc)) v u l).1;
      }

  -- a place that was inside is leaving, and the flag of its ticket is shut
  pub array_shuts : (t : ℕ) (is_open' : ℕ → Bool) → array_phase_at ps w ≡ Inside t
      → is_open' (flag_of t) ≡ false → ((i : ℕ) → i ≢ flag_of t → is_open' i ≡ is_open i)
      → IsArrayLawful next is_open' (set ps w (Leaving t))
  array_shuts t is_open' inside off others = let p : ArrayPhase = Leaving t in let room = is_array_there ps w (Inside t) t inside refl in
      let turn = law.tickets.served w t (phase_is ps w (Inside t) inside) in
      let nobody = nobody_leaves (Inside t) inside (ap Some turn) (λ u l. let clash : Inside t ≡ Leaving u = sym inside ∙ l in absurd (cc)) in
      record {
        tickets = moved_lawful next serving w ps p (shut t inside);
        few = let long = length-set ps w p in let few = law.few in omega arith;
        one_open = λ none. absurd (none w t (get_or-set_same ps w p Away room));
        none_open = λ v u l i small. dite (ℕ_discrete i (flag_of t))
            (λ mine. ap is_open' mine ∙ off)
            (λ other. others i other ∙ (law.one_open nobody i small ∙ other_flag i (flag_of serving) (λ e. other (e ∙ ap flag_of (sym turn)))));
      }

  -- a place that was leaving is away, and the flag of the next ticket is open
  pub array_passes : (t : ℕ) (is_open' : ℕ → Bool) → array_phase_at ps w ≡ Leaving t
      → is_open' (flag_of (t + 1)) ≡ true → ((i : ℕ) → i ≢ flag_of (t + 1) → is_open' i ≡ is_open i)
      → IsArrayLawful next is_open' (set ps w Away)
  array_passes t is_open' leaving on others = let room = is_array_there ps w (Leaving t) t leaving refl in
      let turn = law.tickets.served w t (phase_is ps w (Leaving t) leaving) in let after = passed t leaving in
      let serving' : ℕ = serving_of next (set ps w Away) in
      let flag : flag_of (t + 1) ≡ flag_of serving' = ap (λ (k : ℕ). flag_of (k + 1)) turn ∙ ap flag_of (sym (serving_of-set next (serving + 1) w ps Away after)) in
      record {
        tickets = moved_lawful next (serving + 1) w ps Away after;
        few = let long = length-set ps w Away in let few = law.few in omega arith;
        one_open = λ nobody i small. dite (ℕ_discrete i (flag_of (t + 1)))
            (λ here. ap is_open' here ∙ (on ∙ sym (same_flag i (flag_of serving') (here ∙ flag))))
            (λ other. others i other ∙ (law.none_open w t leaving i small ∙ sym (other_flag i (flag_of serving') (λ e. other (e ∙ sym flag)))));
        none_open = λ v u l. let before = was_leaving Away room (λ _ clash. absurd (cc)) v u l in
            absurd (before.0 (law.tickets.distinct v w serving (leaving_is_served v u before.1) (leaving_is_served w t leaving)));
      }
