-- Each event of the ticket lock leads from a lawful state to a lawful one.
use Rattle.std.proofs.Common.{◌≡◌, ℕ, zero, suc, ◌+◌, ◌<◌, ◌≢◌, cond, Some, None, List, [], ◌∷◌, length, set, replicate, sym, refl, ap, ◌∙◌, arith}
use Rattle.std.specs.Prelude.{is_some}
use Rattle.std.specs.List.{sum_by}
use Rattle.std.proofs.lemmas.List.Sums.{sum_by-set, sum_by-cons}
use Rattle.ticket_core.proofs.Places.{at_write, get_or-replicate_same}
use Rattle.ticket_core.specs.declared.ticket_lock.Phase.{Phase}
use Rattle.ticket_core.specs.declared.ticket_lock.Phase.TheVariants.{Away, Waiting, Inside}
use Rattle.ticket_core.specs.TicketLock.{LockState, IsLawful, phase_at, ticket_of}
use Rattle.ticket_core.specs.TicketSteps.{new_lock}

-- a place in this phase has the ticket t
abbrev pub HasTicket : ℕ → Phase → Type 0
HasTicket t p = ticket_of p ≡ Some t

-- a place in this phase is inside with the ticket t
abbrev pub IsInside : ℕ → Phase → Type 0
IsInside t p = p ≡ Inside t

-- how many tickets a place in this phase has out
abbrev pub tickets_of : Phase → ℕ
tickets_of p = cond (is_some (ticket_of p)) 1 0

-- a place that has a ticket is there
pub is_there : (ps : List Phase) (w t : ℕ) → HasTicket t (phase_at ps w) → w < length ps
is_there [] w t has = absurd (cc)
is_there (p ∷ ps) zero t has = omega arith
is_there (p ∷ ps) (suc w) t has = let there = is_there ps w t has in omega arith

module _ (s : LockState) (w : ℕ) (law : IsLawful s) where
  -- nobody has the next ticket yet
  fresh : (v : ℕ) → HasTicket s.next (phase_at s.phases v) → ⊥
  fresh v has = let range = law.within v s.next has in omega arith

  -- a place that was away waits with the next ticket
  pub draws : w < length s.phases → phase_at s.phases w ≡ Away
      → IsLawful (record { next = s.next + 1; serving = s.serving; phases = set s.phases w (Waiting s.next) })
  draws room away = let drawn : Phase = Waiting s.next in record {
    distinct = λ v u t a b. at_write (HasTicket t) s.phases w v drawn Away room a
        (λ v_is_w mine. at_write (HasTicket t) s.phases w u drawn Away room b (λ u_is_w _. v_is_w ∙ sym u_is_w) (λ _ old. absurd (fresh u (old ∙ sym mine))))
        (λ _ old. at_write (HasTicket t) s.phases w u drawn Away room b (λ _ mine. absurd (fresh v (old ∙ sym mine))) (λ _ too. law.distinct v u t old too));
    within = λ v t a. at_write (HasTicket t) s.phases w v drawn Away room a
        (λ _ mine. let same : s.next ≡ t = cc in let many = law.as_many in (omega arith, omega arith))
        (λ _ old. let range = law.within v t old in (omega arith, omega arith));
    as_many = let many = law.as_many in let moved = sum_by-set tickets_of s.phases w drawn Away room in
        let none : tickets_of (phase_at s.phases w) ≡ 0 = ap tickets_of away in omega arith;
    served = λ v t a. at_write (IsInside t) s.phases w v drawn Away room a (λ _ clash. absurd (cc)) (λ _ old. law.served v t old);
  }

  -- who has a ticket once w is inside had it before
  had_before_entry : (t : ℕ) → w < length s.phases → phase_at s.phases w ≡ Waiting t
      → (u k : ℕ) → HasTicket k (phase_at (set s.phases w (Inside t)) u) → HasTicket k (phase_at s.phases u)
  had_before_entry t room waits u k has = at_write (HasTicket k) s.phases w u (Inside t) Away room has
      (λ u_is_w mine. ap (λ (j : ℕ). ticket_of (phase_at s.phases j)) u_is_w ∙ (ap ticket_of waits ∙ mine))
      (λ _ old. old)

  -- a place that waited with the served ticket is inside
  pub enters : (t : ℕ) → phase_at s.phases w ≡ Waiting t → t ≡ s.serving
      → IsLawful (record { next = s.next; serving = s.serving; phases = set s.phases w (Inside t) })
  enters t waits turn = let room = is_there s.phases w t (ap ticket_of waits) in let had = had_before_entry t room waits in record {
    distinct = λ v u k a b. law.distinct v u k (had v k a) (had u k b);
    within = λ v k a. law.within v k (had v k a);
    as_many = let many = law.as_many in let moved = sum_by-set tickets_of s.phases w (Inside t) Away room in
        let one : tickets_of (phase_at s.phases w) ≡ 1 = ap tickets_of waits in omega arith;
    served = λ v k a. at_write (IsInside k) s.phases w v (Inside t) Away room a
        (λ _ mine. let same : t ≡ k = cc in sym same ∙ turn)
        (λ _ old. law.served v k old);
  }

  -- who has a ticket once w is away is another place, and had it before
  had_before_leave : w < length s.phases → (u k : ℕ) → HasTicket k (phase_at (set s.phases w Away) u) → (u ≢ w) × HasTicket k (phase_at s.phases u)
  had_before_leave room u k has = at_write (HasTicket k) s.phases w u Away Away room has (λ _ clash. absurd (cc)) (λ other old. (other, old))

  -- nobody but the place that is inside has the served ticket
  alone : (t : ℕ) → phase_at s.phases w ≡ Inside t → (u : ℕ) → u ≢ w → HasTicket s.serving (phase_at s.phases u) → ⊥
  alone t inside u other has = other (law.distinct u w s.serving has (ap ticket_of inside ∙ ap Some (law.served w t inside)))

  -- a place that was inside is away, and the next ticket is served
  pub leaves : (t : ℕ) → phase_at s.phases w ≡ Inside t
      → IsLawful (record { next = s.next; serving = s.serving + 1; phases = set s.phases w Away })
  leaves t inside = let room = is_there s.phases w t (ap ticket_of inside) in let had = had_before_leave room in record {
    distinct = λ v u k a b. law.distinct v u k (had v k a).1 (had u k b).1;
    within = λ v k a. let old = had v k a in let range = law.within v k old.1 in
        let other : k ≢ s.serving = λ e. alone t inside v old.0 (old.1 ∙ ap Some e) in (omega arith, range.1);
    as_many = let many = law.as_many in let moved = sum_by-set tickets_of s.phases w Away Away room in
        let one : tickets_of (phase_at s.phases w) ≡ 1 = ap tickets_of inside in omega arith;
    served = λ v k a. at_write (IsInside k) s.phases w v Away Away room a
        (λ _ clash. absurd (cc))
        (λ other old. absurd (alone t inside v other (ap ticket_of old ∙ ap Some (law.served v k old))));
  }

  -- where a place that waits has the served ticket, nobody is inside
  pub nobody_inside : (t : ℕ) → phase_at s.phases w ≡ Waiting t → t ≡ s.serving → (v u : ℕ) → phase_at s.phases v ≡ Inside u → ⊥
  nobody_inside t waits turn v u inside =
      let same = law.distinct v w u (ap ticket_of inside) (ap ticket_of waits ∙ ap Some (turn ∙ sym (law.served v u inside))) in
      let clash : Inside u ≡ Waiting t = sym inside ∙ (ap (phase_at s.phases) same ∙ waits) in absurd (cc)

-- nothing is counted where each place counts nothing
pub sum_by-replicate_zero : (f : Phase → ℕ) (n : ℕ) → f Away ≡ 0 → sum_by f (replicate n Away) ≡ 0
sum_by-replicate_zero f zero none = refl
sum_by-replicate_zero f (suc n) none =
    sum_by-cons f Away (replicate n Away) ∙ (let rest = sum_by-replicate_zero f n none in omega arith)

-- a new lock is lawful
pub new_lawful : (places : ℕ) → IsLawful (new_lock places)
new_lawful places = let away = λ (w : ℕ). get_or-replicate_same places w Away in record {
  distinct = λ v w t a b. absurd (let clash : None ≡ Some t = sym (ap ticket_of (away v)) ∙ a in cc);
  within = λ w t a. absurd (let clash : None ≡ Some t = sym (ap ticket_of (away w)) ∙ a in cc);
  as_many = let none = sum_by-replicate_zero tickets_of places refl in omega arith;
  served = λ w t a. absurd (let clash : Away ≡ Inside t = sym (away w) ∙ a in cc);
}
