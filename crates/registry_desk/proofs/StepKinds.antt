-- Each step of the desk, of whatever kind, is its event; and what the seats know determines the lock that is shown.
use Rattle.std.proofs.Common.{◌≡◌, ℕ, zero, suc, ◌+◌, ◌%◌, ◌^◌, ◌<◌, ◌≤◌, ◌⊎◌, Bool, true, false, List, [], ◌∷◌, ◌++◌, map, length, get_or, set, sym, refl, ap, ◌∙◌, subst, inl, inr, ⊎_elim, arith}
use Rattle.std.specs.Prelude.{◌==◌}
use Rattle.std.specs.List.{sum_by}
use Rattle.std.proofs.lemmas.List.{ext_get_or, set-get_or}
use Rattle.std.proofs.lemmas.Bool.Decides.{nat_tests}
use mathlib.Core.Logic.{dite}
use mathlib.Core.List.{map-append}
use native.Mathlib.Decide.{ℕ_discrete}
use Rattle.atomic_table.specs.Table.{opening}
use Rattle.atomic_table.proofs.Lists.{set_else, set_again}
use Rattle.ticket_core.specs.declared.array_lock.ArrayPhase.{ArrayPhase}
use Rattle.ticket_core.specs.declared.array_lock.ArrayPhase.TheVariants.{Away, Waiting, Inside, Leaving}
use Rattle.ticket_core.specs.declared.array_lock.ArrayOutcome.TheVariants.{Drew, Waits, Enters, Shuts, Passes}
use Rattle.ticket_core.specs.ArrayLock.{ArrayState, array_phase_at, flag_of, serving_of, NobodyLeaves, IsLawfulArrayState}
use Rattle.ticket_core.specs.ArraySteps.{new_array_lock}
use Rattle.ticket_core.specs.TicketSteps.{greatest_next}
use Rattle.ticket_core.proofs.lemmas.ArrayStates.{new_array_lawful}
use Rattle.work_registry.specs.BookValue.{BookValue}
use Rattle.registry_desk.specs.declared.view.View.{View}
use Rattle.registry_desk.specs.Views.{phase_of, turns_of, spent_view, opening_view, drawn, looked, entered, shut, passed}
use Rattle.registry_desk.specs.Plays.{Seated}
use Rattle.registry_desk.specs.Kinds.{Kind, draws, looks, shuts, passes, counts, gives, meets, exchanges, given_by, left_by, joined_by}
use Rattle.registry_desk.specs.Rule.{DeskState, is_open, shown_lock, Kept}
use Rattle.registry_desk.specs.Steps.{StepsOnWord, Gives, Meets, Makes, IsEvent, EachStepIsEvent, ViewsFixLock, shown, written_by}
use Rattle.registry_desk.specs.Runs.{TicketsLeft, OpensAsNew, KeepsRoom}
use Rattle.registry_desk.proofs.Lists.{there}
use Rattle.registry_desk.proofs.Lock.{draw_event, enter_event, wait_event, shut_event, pass_event}
use Rattle.registry_desk.proofs.Steps.{small_tickets}
use Rattle.registry_desk.proofs.Giving.{same_phases}

-- whether some place is leaving
leaves_later : (p : ArrayPhase) (ps : List ArrayPhase) → ((t : ℕ) → p ≡ Leaving t → ⊥)
    → ((place : ℕ) × (t : ℕ) × (array_phase_at ps place ≡ Leaving t)) ⊎ NobodyLeaves ps
    → ((place : ℕ) × (t : ℕ) × (array_phase_at (p ∷ ps) place ≡ Leaving t)) ⊎ NobodyLeaves (p ∷ ps)
leaves_later p ps out (inl x) = inl (suc x.0, x.1, x.2)
leaves_later p ps out (inr nobody) = inr by where
  by : NobodyLeaves (p ∷ ps)
  by zero t e = out t e
  by (suc k) t e = nobody k t e

some_leaves : (ps : List ArrayPhase) → ((place : ℕ) × (t : ℕ) × (array_phase_at ps place ≡ Leaving t)) ⊎ NobodyLeaves ps
some_leaves [] = inr (λ place t e. absurd (cc))
some_leaves (Away ∷ ps) = leaves_later Away ps (λ t e. absurd (cc)) (some_leaves ps)
some_leaves (Waiting u ∷ ps) = leaves_later (Waiting u) ps (λ t e. absurd (cc)) (some_leaves ps)
some_leaves (Inside u ∷ ps) = leaves_later (Inside u) ps (λ t e. absurd (cc)) (some_leaves ps)
some_leaves (Leaving u ∷ ps) = inl (0, u, refl)

-- two lawful states with one next ticket and the same phases are one
pub determined : (a b : ArrayState) → IsLawfulArrayState a → IsLawfulArrayState b → a.next ≡ b.next → a.phases ≡ b.phases → a ≡ b
determined a b law law' next phases =
    let flags : a.flags ≡ b.flags = ext_get_or false a.flags b.flags (law.all_flags ∙ sym law'.all_flags) (λ i small. let all = law.all_flags in let room : i < 64 = omega arith in ⊎_elim
    (λ (x : (place : ℕ) × (t : ℕ) × (array_phase_at a.phases place ≡ Leaving t)).
    law.lawful.none_open x.0 x.1 x.2 i room ∙ sym (law'.lawful.none_open x.0 x.1 (ap (λ (ps : List ArrayPhase). array_phase_at ps x.0) (sym phases) ∙ x.2) i room))
    (λ (nobody : NobodyLeaves a.phases).
    law.lawful.one_open nobody i room ∙ ((λ j. i == flag_of (serving_of (next j) (phases j))) ∙ sym (law'.lawful.one_open (subst NobodyLeaves phases nobody) i room)))
    (some_leaves a.phases)) in
    λ j. record { next = next j; flags = flags j; phases = phases j }

-- so what the seats know determines the lock that is shown, where the rule holds
pub views_fix_lock : ViewsFixLock
views_fix_lock s t r r' same = determined (shown s) (shown t) r.lock r'.lock
    (sym r.total ∙ (ap (λ (l : List View). sum_by turns_of l) same ∙ r'.total)) (ap (λ (l : List View). map phase_of l) same)

pub opens_as_new : OpensAsNew
opens_as_new words slots book seats r = determined (shown (opening words slots (opening_view book seats))) (new_array_lock 1) r.lock (new_array_lawful 1 (omega arith)) (sym r.total) refl

-- a step on words, from a state that has them and tickets
module _ (id : ℕ) (s after : DeskState) where
  -- what is shown after a step
  after_is : (kind : Kind) (m : StepsOnWord kind id s after) (w : View) (words : List ℕ) → m.view ≡ w
      → set s.words m.step.word (written_by kind (get_or s.words m.step.word 0)) ≡ words → shown after ≡ shown_lock words (set s.views id w)
  after_is kind m w words view wrote = ap shown m.state ∙ (λ i. shown_lock (wrote i) (set s.views id (view i)))

  pub draws_event : 0 < length s.words → get_or s.words 0 0 < greatest_next → StepsOnWord draws id s after → IsEvent draws id (shown s) (shown after)
  draws_event some_word room m = let n : ℕ = get_or s.words 0 0 in let v : View = m.me.0 in
      let view : m.view ≡ drawn v n = ap (λ (z : Seated). z.0) m.told.2 ∙ ap (λ (k : ℕ). drawn v (get_or s.words k 0)) m.told.0 in
      draw_event s.words s.views id v m.there some_word room m.told.1
      ∙ ap (λ (l : ArrayState). (l, Drew n)) (sym (after_is draws m (drawn v n) (set s.words 0 ((n + 1) % 2 ^ 64)) view
      (ap (λ (k : ℕ). set s.words k ((get_or s.words k 0 + 1) % 2 ^ 64)) m.told.0)))

  pub looks_event : StepsOnWord looks id s after → IsEvent looks id (shown s) (shown after)
  looks_event m = let v : View = m.me.0 in let t : ℕ = m.told.0 in let waits = m.told.1 in let found : ℕ = get_or s.words m.step.word 0 in
      let read : found ≡ get_or s.words (flag_of t + 1) 0 = ap (λ (k : ℕ). get_or s.words k 0) m.told.2 in
      let still : set s.words m.step.word found ≡ s.words = set-get_or s.words m.step.word 0 in
      dite (ℕ_discrete found 1)
      (λ hit. let f = m.told.3 hit in let w : View = entered v t f.0 in
      let on : is_open (get_or s.words (flag_of t + 1) 0) ≡ true = ap is_open (sym read ∙ hit) in
      inr (t, enter_event s.words s.views id v m.there t f.0 waits on ∙ ap (λ (l : ArrayState). (l, Enters t)) (sym (after_is looks m w s.words (ap (λ (z : Seated). z.0) f.1) still))))
      (λ miss. let w : View = looked v found in
      let off : is_open (get_or s.words (flag_of t + 1) 0) ≡ false = ap is_open (sym read) ∙ (let e : is_open found ≡ false = grind (arith, nat_tests) in e) in
      inl (wait_event s.words s.views id v m.there t found waits off ∙ ap (λ (l : ArrayState). (l, Waits)) (sym (after_is looks m w s.words (ap (λ (z : Seated). z.0) (m.told.4 miss)) still))))

  pub shuts_event : (full : Bool) → StepsOnWord (shuts full) id s after → IsEvent (shuts full) id (shown s) (shown after)
  shuts_event full m = let v : View = m.me.0 in let t : ℕ = m.told.0 in let b : BookValue = m.told.1 in
      shut_event s.words s.views id v m.there t full b.history m.told.2
      ∙ ap (λ (l : ArrayState). (l, Shuts)) (sym (after_is (shuts full) m (shut v t full b.history) (set s.words (flag_of t + 1) 0) (ap (λ (z : Seated). z.0) m.told.5) (ap (λ (k : ℕ). set s.words k 0) m.told.4)))

  pub passes_event : StepsOnWord passes id s after → IsEvent passes id (shown s) (shown after)
  passes_event m = let v : View = m.me.0 in let t : ℕ = m.told.0 in
      pass_event s.words s.views id v m.there t m.told.1
      ∙ ap (λ (l : ArrayState). (l, Passes)) (sym (after_is passes m (passed v) (set s.words (flag_of (t + 1) + 1) 1) (ap (λ (z : Seated). z.0) m.told.3) (ap (λ (k : ℕ). set s.words k 1) m.told.2)))

  pub counts_event : StepsOnWord counts id s after → IsEvent counts id (shown s) (shown after)
  counts_event m = after_is counts m m.me.0 s.words (ap (λ (z : Seated). z.0) m.told.0) (set-get_or s.words m.step.word 0) ∙ ap (λ (l : List View). shown_lock s.words l) (set_again s.views id m.me.0 m.there)

  pub gives_event : Gives id s after → IsEvent gives id (shown s) (shown after)
  gives_event g = let w : View = left_by gives g.view in let x : View = given_by gives g.view in
      let phases : map phase_of (set s.views id w ++ x ∷ []) ≡ map phase_of s.views ++ Away ∷ [] =
      map-append phase_of (set s.views id w) (x ∷ []) ∙ ap (λ (l : List ArrayPhase). l ++ Away ∷ []) (same_phases s.views id g.view w g.there refl) in
      ap shown g.state ∙ ap (λ (l : List ArrayPhase). record (shown s) { phases = l }) phases

  pub meets_event : Meets id s after → IsEvent meets id (shown s) (shown after)
  meets_event m = let both : View = joined_by meets m.view m.met in let changed : List View = set s.views id both in
      let phases : map phase_of (set changed m.other spent_view) ≡ map phase_of s.views =
      same_phases changed m.other m.met spent_view (set_else s.views id m.other both m.apart ∙ m.other_there) (sym m.away) ∙ same_phases s.views id m.view both m.there refl in
      ap shown m.state ∙ ap (λ (l : List ArrayPhase). record (shown s) { phases = l }) phases

  -- it is enough that there is a word, and that tickets are left
  pub step_is_event : (kind : Kind) → 0 < length s.words → TicketsLeft s → Makes kind id s after → IsEvent kind id (shown s) (shown after)
  step_is_event draws some_word room m = draws_event some_word room m
  step_is_event looks some_word room m = looks_event m
  step_is_event (shuts full) some_word room m = shuts_event full m
  step_is_event passes some_word room m = passes_event m
  step_is_event counts some_word room m = counts_event m
  step_is_event gives some_word room m = gives_event m
  step_is_event meets some_word room m = meets_event m
  step_is_event exchanges some_word room m = ap shown m

few_seats : (s : DeskState) → Kept s → length s.views ≤ 64
few_seats s r = let f = there s.views 0 r.some_seat in let o = (r.each 0 f.0 f.1).opens refl in let count = o.1 in let room = o.2 in omega arith

pub keeps_room : KeepsRoom
keeps_room s r = (few_seats s r, let below = small_tickets s r in omega arith)

pub each_step_is_event : EachStepIsEvent
each_step_is_event kind id s after r m = step_is_event id s after kind (let wide = r.words in omega arith) (keeps_room s r).1 m
