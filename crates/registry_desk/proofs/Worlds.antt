-- Runs of the lock and the history.
use Rattle.std.proofs.Common.{◌≡◌, ℕ, Bool, true, false, cond, List, [], ◌∷◌, ◌++◌, sym, refl, ap, ◌∙◌, subst, append_assoc, append-nil}
use Rattle.std.specs.Prelude.{◌==◌}
use Rattle.std.proofs.lemmas.List.Elements.{filter-append}
use Rattle.ticket_core.specs.declared.array_lock.ArrayPhase.{ArrayPhase}
use Rattle.ticket_core.specs.declared.array_lock.ArrayPhase.TheVariants.{Away, Waiting, Inside, Leaving}
use Rattle.ticket_core.specs.ArrayLock.{array_phase_at}
use Rattle.cwr_call.specs.CallValue.{CallValue}
use Rattle.work_registry.specs.EntryValue.{EntryValue}
use Rattle.work_registry.specs.History.{IsHistory}
use Rattle.work_registry.specs.Replay.{made, entry_for}
use Rattle.registry_desk.specs.World.{World, WorldEvent, locks, applies, added_at, added, world_after, run_world, is_call_of, added_in}

-- one entry more, with the registry's reply, makes a history again
abbrev pub OneMore : Type 0
OneMore = (history : List EntryValue) (session : ℕ) (call : CallValue) → IsHistory history → IsHistory (history ++ entry_for session history call ∷ [])

module _ (one_more : OneMore) where
  added_keeps : (w : World) (place : ℕ) (call : CallValue) (p : ArrayPhase) → IsHistory w.history → IsHistory (w.history ++ added_at w place call p)
  added_keeps w place call Away h = subst IsHistory (sym (append-nil w.history)) h
  added_keeps w place call (Waiting t) h = subst IsHistory (sym (append-nil w.history)) h
  added_keeps w place call (Leaving t) h = subst IsHistory (sym (append-nil w.history)) h
  added_keeps w place call (Inside t) h = by w.used where
    by : (b : Bool) → IsHistory (w.history ++ cond b [] (entry_for place w.history call ∷ []))
    by true = subst IsHistory (sym (append-nil w.history)) h
    by false = one_more w.history place call h

  step_keeps : (w : World) (e : WorldEvent) → IsHistory w.history → IsHistory (world_after w e).history
  step_keeps w (locks e) h = h
  step_keeps w (applies place call) h = added_keeps w place call (array_phase_at w.lock.phases place) h

  pub run_keeps : (w : World) (es : List WorldEvent) → IsHistory w.history → IsHistory (run_world w es).history
  run_keeps w [] h = h
  run_keeps w (e ∷ es) h = run_keeps (world_after w e) es (step_keeps w e h)

-- what a call adds is of its place's session
one_made : (h : List EntryValue) (place : ℕ) (call : CallValue) (s : ℕ) (b : Bool)
    → made (cond b [] (entry_for place h call ∷ [])) s ≡ cond (place == s) (cond b [] (entry_for place h call ∷ [])) []
one_made h place call s true = by (place == s) where
  by : (b : Bool) → ◌≡◌ {A = List EntryValue} [] (cond b [] [])
  by true = refl
  by false = refl
one_made h place call s false = refl

by_made : (w : World) (place : ℕ) (call : CallValue) (s : ℕ) (p : ArrayPhase) → made (added_at w place call p) s ≡ cond (place == s) (added_at w place call p) []
by_made w place call s Away = one_made w.history place call s true
by_made w place call s (Waiting t) = one_made w.history place call s true
by_made w place call s (Leaving t) = one_made w.history place call s true
by_made w place call s (Inside t) = one_made w.history place call s w.used

step_made : (w : World) (e : WorldEvent) (s : ℕ) → made (world_after w e).history s ≡ made w.history s ++ cond (is_call_of s e) (added w e) []
step_made w (locks e) s = sym (append-nil (made w.history s))
step_made w (applies place call) s = filter-append (λ x. x.session == s) w.history (added w (applies place call))
    ∙ ap (λ (l : List EntryValue). made w.history s ++ l) (by_made w place call s (array_phase_at w.lock.phases place))

pub run_made : (w : World) (es : List WorldEvent) (s : ℕ) → made (run_world w es).history s ≡ made w.history s ++ added_in w s es
run_made w [] s = sym (append-nil (made w.history s))
run_made w (e ∷ es) s = run_made (world_after w e) es s
    ∙ (ap (λ (l : List EntryValue). l ++ added_in (world_after w e) s es) (step_made w e s)
    ∙ append_assoc (made w.history s) (cond (is_call_of s e) (added w e) []) (added_in (world_after w e) s es))
