-- A run of the desk shows a run of the lock.
use Rattle.std.proofs.Common.{◌≡◌, ℕ, ◌+◌, ◌<◌, ◌≤◌, Option, Some, None, List, [], ◌∷◌, ◌++◌, map, length, set, sym, refl, ap, ◌∙◌, subst, ⊎_elim, arith, append_assoc, append-nil, length-set, length-append}
use Rattle.std.specs.List.{cons_option}
use Rattle.std.proofs.lemmas.List.{length-replicate}
use Rattle.ticket_core.specs.declared.array_lock.ArrayPhase.TheVariants.{Away}
use Rattle.ticket_core.specs.declared.array_lock.ArrayEvent.{ArrayEvent}
use Rattle.ticket_core.specs.declared.array_lock.ArrayEvent.TheVariants.{Draw, Look, Shut, Pass}
use Rattle.ticket_core.specs.declared.array_lock.ArrayOutcome.{ArrayOutcome}
use Rattle.ticket_core.specs.declared.array_lock.ArrayOutcome.TheVariants.{Waits, Enters}
use Rattle.ticket_core.specs.ArrayLock.{ArrayState, ticket_phase}
use Rattle.ticket_core.specs.ArraySteps.{new_array_lock, array_answer, array_after_all}
use Rattle.ticket_core.specs.TicketLock.{AtMostOneInside}
use Rattle.ticket_core.proofs.lemmas.ArrayRuns.{array_after_all-append}
use Rattle.registry_desk.specs.declared.view.View.{View}
use Rattle.registry_desk.specs.Kinds.{Kind, draws, looks, shuts, passes, counts, gives, meets, exchanges, left_by, given_by, joined_by}
use Rattle.registry_desk.specs.Rule.{DeskState}
use Rattle.registry_desk.specs.Steps.{StepsOnWord, Gives, Makes, IsEvent, shown, one_place_more}
use Rattle.registry_desk.specs.Runs.{DeskStep, TicketsLeft, Leads, opened, event_of, events_of, ShowsRun, RunsHaveOneInside}
use Rattle.registry_desk.proofs.Lists.{within}
use Rattle.registry_desk.proofs.MorePlaces.{AllWithin, place_of, within_more, within_next, run_more, new_more}
use Rattle.registry_desk.proofs.StepKinds.{step_is_event}

-- the lock that is shown is the one that these events of its places lead to
pub record ShownAfter (s : DeskState) (es : List ArrayEvent) : Type 0 where
  pub words : 0 < length s.words
  pub places : AllWithin (length s.views) es
  pub is : shown s ≡ array_after_all (new_array_lock (length s.views)) es

-- a step that is an event
by_event : (s after : DeskState) (es : List ArrayEvent) (e : ArrayEvent) (o : ArrayOutcome) → ShownAfter s es → length after.words ≡ length s.words → length after.views ≡ length s.views
    → place_of e < length s.views → array_answer (shown s) e ≡ (shown after, o) → ShownAfter after (es ++ e ∷ [])
by_event s after es e o h wide size place event = record {
  words = let some_word = h.words in omega arith;
  places = subst (λ (n : ℕ). AllWithin n (es ++ e ∷ [])) (sym size) (within_next (length s.views) es e h.places place);
  is = ap (λ (a : ArrayState × ArrayOutcome). a.0) (sym event) ∙ (ap (λ (l : ArrayState). (array_answer l e).0) h.is
      ∙ (sym (array_after_all-append (new_array_lock (length s.views)) es e) ∙ ap (λ (n : ℕ). array_after_all (new_array_lock n) (es ++ e ∷ [])) (sym size)));
}

-- a step that is none
by_none : (s after : DeskState) (es : List ArrayEvent) → ShownAfter s es → length after.words ≡ length s.words → length after.views ≡ length s.views → shown after ≡ shown s
    → ShownAfter after (es ++ [])
by_none s after es h wide size same = subst (ShownAfter after) (sym (append-nil es)) (record {
  words = let some_word = h.words in omega arith;
  places = subst (λ (n : ℕ). AllWithin n es) (sym size) h.places;
  is = same ∙ (h.is ∙ ap (λ (n : ℕ). array_after_all (new_array_lock n) es) (sym size));
})

module _ (id : ℕ) (s after : DeskState) (es : List ArrayEvent) (h : ShownAfter s es) (left : TicketsLeft s) where
  event : (kind : Kind) → Makes kind id s after → IsEvent kind id (shown s) (shown after)
  event kind m = step_is_event id s after kind h.words left m

  as_wide : (kind : Kind) (m : StepsOnWord kind id s after) → length after.words ≡ length s.words
  as_wide kind m = ap (λ (z : DeskState). length z.words) m.state ∙ length-set s.words m.step.word _

  as_many : (kind : Kind) (m : StepsOnWord kind id s after) → length after.views ≡ length s.views
  as_many kind m = ap (λ (z : DeskState). length z.views) m.state ∙ length-set s.views id m.view

  on_word : (kind : Kind) (m : StepsOnWord kind id s after) (e : ArrayEvent) (o : ArrayOutcome) → place_of e ≡ id → array_answer (shown s) e ≡ (shown after, o) → ShownAfter after (es ++ e ∷ [])
  on_word kind m e o place answer = let here = within s.views id m.me.0 m.there in by_event s after es e o h (as_wide kind m) (as_many kind m) (omega arith) answer

  given : Gives id s after → ShownAfter after (es ++ [])
  given g = let n : ℕ = length s.views in let w : View = left_by gives g.view in
      let size : length after.views ≡ n + 1 = ap (λ (z : DeskState). length z.views) g.state ∙ (let a = length-append (set s.views id w) (given_by gives g.view ∷ []) in let b = length-set s.views id w in omega arith) in
      subst (ShownAfter after) (sym (append-nil es)) (record {
        words = let some_word = h.words in let e = ap (λ (z : DeskState). length z.words) g.state in omega arith;
        places = subst (λ (k : ℕ). AllWithin k es) (sym size) (within_more n es h.places);
        is = event gives g ∙ (ap one_place_more h.is ∙ (sym (run_more (new_array_lock n) es n (sym (length-replicate n Away)) h.places)
            ∙ (ap (λ (l : ArrayState). array_after_all l es) (sym (new_more n)) ∙ ap (λ (k : ℕ). array_after_all (new_array_lock k) es) (sym size))));
      })

  one_step : (kind : Kind) → Makes kind id s after → ShownAfter after (es ++ cons_option (event_of kind id) [])
  one_step draws m = on_word draws m (Draw id) _ refl (event draws m)
  one_step looks m = ⊎_elim
      (λ (e : array_answer (shown s) (Look id) ≡ (shown after, Waits)). on_word looks m (Look id) Waits refl e)
      (λ (x : (t : ℕ) × (array_answer (shown s) (Look id) ≡ (shown after, Enters t))). on_word looks m (Look id) (Enters x.0) refl x.1)
      (event looks m)
  one_step (shuts full) m = on_word (shuts full) m (Shut id) _ refl (event (shuts full) m)
  one_step passes m = on_word passes m (Pass id) _ refl (event passes m)
  one_step counts m = by_none s after es h (as_wide counts m) (as_many counts m) (event counts m)
  one_step gives m = given m
  one_step meets m = by_none s after es h (ap (λ (z : DeskState). length z.words) m.state)
      (ap (λ (z : DeskState). length z.views) m.state ∙ (length-set (set s.views id (joined_by meets m.view m.met)) m.other _ ∙ length-set s.views id (joined_by meets m.view m.met)))
      (event meets m)
  one_step exchanges m = by_none s after es h (ap (λ (z : DeskState). length z.words) m) (ap (λ (z : DeskState). length z.views) m) (ap shown m)

-- the events so far, and then the next if there is one
behind : (es rest : List ArrayEvent) (o : Option ArrayEvent) → (es ++ cons_option o []) ++ rest ≡ es ++ cons_option o rest
behind es rest (Some e) = append_assoc es (e ∷ []) rest
behind es rest None = ap (λ (l : List ArrayEvent). l ++ rest) (append-nil es)

all_steps : (ds : List DeskStep) (s last : DeskState) (es : List ArrayEvent) → ShownAfter s es → Leads s ds last → ShownAfter last (es ++ events_of ds)
all_steps [] s last es h e = subst (λ (z : DeskState). ShownAfter z (es ++ [])) (sym e) (subst (ShownAfter s) (sym (append-nil es)) h)
all_steps (d ∷ ds) s last es h m = subst (ShownAfter last) (behind es (events_of ds) (event_of d.kind d.seat))
    (all_steps ds m.1 last (es ++ cons_option (event_of d.kind d.seat) []) (one_step d.seat s m.1 es h m.0 d.kind m.2) m.3)

pub shows_run : ShowsRun
shows_run steps last run = (all_steps steps (opened run.0 run.1) last [] (record { words = omega arith; places = tt; is = refl }) run.2).is

-- by the law of the lock
pub one_inside : ((places : ℕ) (events : List ArrayEvent) → places ≤ 64 → AtMostOneInside (map ticket_phase (array_after_all (new_array_lock places) events).phases)) → RunsHaveOneInside
one_inside law steps last run few =
    subst (λ (l : ArrayState). AtMostOneInside (map ticket_phase l.phases)) (sym (shows_run steps last run)) (law (length last.views) (events_of steps) few)
