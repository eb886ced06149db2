-- A lock with one place more, which is away, answers the events of the other places as before.
use Rattle.std.proofs.Common.{◌≡◌, ℕ, ◌+◌, ◌<◌, Bool, true, false, cond, ◌&&◌, List, [], ◌∷◌, ◌++◌, length, set, sym, refl, ap, ◌∙◌, arith, length-set, length-append}
use Rattle.std.specs.Prelude.{nat_lt}
use Rattle.std.proofs.lemmas.List.{set-append_left, replicate-append-replicate}
use Rattle.std.proofs.lemmas.Bool.Decides.{nat_tests}
use Rattle.ticket_core.specs.declared.array_lock.ArrayPhase.{ArrayPhase}
use Rattle.ticket_core.specs.declared.array_lock.ArrayPhase.TheVariants.{Away, Waiting, Inside, Leaving}
use Rattle.ticket_core.specs.declared.array_lock.ArrayEvent.{ArrayEvent}
use Rattle.ticket_core.specs.declared.array_lock.ArrayEvent.TheVariants.{Draw, Look, Shut, Pass}
use Rattle.ticket_core.specs.declared.array_lock.ArrayOutcome.{ArrayOutcome}
use Rattle.ticket_core.specs.declared.array_lock.ArrayOutcome.TheVariants.{Drew, Waits, Enters, Shuts, Passes, Nothing}
use Rattle.ticket_core.specs.ArrayLock.{ArrayState, array_phase_at, flag_at, flag_of}
use Rattle.ticket_core.specs.ArraySteps.{new_array_lock, array_answer, array_draw_answer, array_look_answer, array_shut_answer, array_pass_answer, array_after_all}
use Rattle.ticket_core.specs.TicketSteps.{greatest_next}
use Rattle.registry_desk.specs.Steps.{one_place_more}
use Rattle.registry_desk.proofs.Lock.{away_more}

-- the place of an event
abbrev pub place_of : ArrayEvent → ℕ
place_of (Draw place) = place
place_of (Look place) = place
place_of (Shut place) = place
place_of (Pass place) = place

-- the events are of the first n places
abbrev pub AllWithin : ℕ → List ArrayEvent → Type 0
AllWithin n [] = Unit {0}
AllWithin n (e ∷ es) = (place_of e < n) × AllWithin n es

pub within_more : (n : ℕ) (es : List ArrayEvent) → AllWithin n es → AllWithin (n + 1) es
within_more n [] w = tt
within_more n (e ∷ es) w = let a = w.0 in (omega arith, within_more n es w.1)

pub within_next : (n : ℕ) (es : List ArrayEvent) (e : ArrayEvent) → AllWithin n es → place_of e < n → AllWithin n (es ++ e ∷ [])
within_next n [] e w here = (here, tt)
within_next n (d ∷ es) e w here = (w.0, within_next n es e w.1 here)

abbrev more : ArrayState × ArrayOutcome → ArrayState × ArrayOutcome
more a = (one_place_more a.0, a.1)

module _ (s : ArrayState) (w : ℕ) (here : w < length s.phases) where
  abbrev M : ArrayState
  M = one_place_more s

  moved_more : (p : ArrayPhase) → set (s.phases ++ Away ∷ []) w p ≡ set s.phases w p ++ Away ∷ []
  moved_more p = set-append_left s.phases (Away ∷ []) w p here

  draw_more : (p : ArrayPhase) → array_draw_answer M w p ≡ more (array_draw_answer s w p)
  draw_more Away = ap (λ (l : List ArrayPhase). (record { next = s.next + 1; flags = s.flags; phases = l }, Drew s.next)) (moved_more (Waiting s.next))
  draw_more (Waiting t) = refl
  draw_more (Inside t) = refl
  draw_more (Leaving t) = refl

  look_more : (p : ArrayPhase) → array_look_answer M w p ≡ more (array_look_answer s w p)
  look_more Away = refl
  look_more (Waiting t) = by (flag_at s.flags (flag_of t)) where
    by : (b : Bool) → cond b (record M { phases = set M.phases w (Inside t) }, Enters t) (M, Waits) ≡ more (cond b (record s { phases = set s.phases w (Inside t) }, Enters t) (s, Waits))
    by true = ap (λ (l : List ArrayPhase). (record { next = s.next; flags = s.flags; phases = l }, Enters t)) (moved_more (Inside t))
    by false = refl
  look_more (Inside t) = refl
  look_more (Leaving t) = refl

  shut_more : (p : ArrayPhase) → array_shut_answer M w p ≡ more (array_shut_answer s w p)
  shut_more Away = refl
  shut_more (Waiting t) = refl
  shut_more (Inside t) = ap (λ (l : List ArrayPhase). (record { next = s.next; flags = set s.flags (flag_of t) false; phases = l }, Shuts)) (moved_more (Leaving t))
  shut_more (Leaving t) = refl

  pass_more : (p : ArrayPhase) → array_pass_answer M w p ≡ more (array_pass_answer s w p)
  pass_more Away = refl
  pass_more (Waiting t) = refl
  pass_more (Inside t) = refl
  pass_more (Leaving t) = ap (λ (l : List ArrayPhase). (record { next = s.next; flags = set s.flags (flag_of (t + 1)) true; phases = l }, Passes)) (moved_more Away)

  drawn_more : (b : Bool) (p : ArrayPhase) → cond b (array_draw_answer M w p) (M, Nothing) ≡ more (cond b (array_draw_answer s w p) (s, Nothing))
  drawn_more true p = draw_more p
  drawn_more false p = refl

  test_more : (nat_lt w (length M.phases) && nat_lt s.next greatest_next) ≡ (nat_lt w (length s.phases) && nat_lt s.next greatest_next)
  test_more = let long = length-append s.phases (Away ∷ []) in
      let a : nat_lt w (length M.phases) ≡ true = grind (arith, nat_tests) in let b : nat_lt w (length s.phases) ≡ true = grind (arith, nat_tests) in
      ap (λ (t : Bool). t && nat_lt s.next greatest_next) (a ∙ sym b)

-- an event of another place is answered as before
answers_more : (s : ArrayState) (e : ArrayEvent) → place_of e < length s.phases → array_answer (one_place_more s) e ≡ more (array_answer s e)
answers_more s (Draw w) here =
    ap (λ (p : ArrayPhase). cond (nat_lt w (length (s.phases ++ Away ∷ [])) && nat_lt s.next greatest_next) (array_draw_answer (one_place_more s) w p) (one_place_more s, Nothing)) (away_more s.phases w)
    ∙ (ap (λ (b : Bool). cond b (array_draw_answer (one_place_more s) w (array_phase_at s.phases w)) (one_place_more s, Nothing)) (test_more s w here)
    ∙ drawn_more s w here (nat_lt w (length s.phases) && nat_lt s.next greatest_next) (array_phase_at s.phases w))
answers_more s (Look w) here = ap (array_look_answer (one_place_more s) w) (away_more s.phases w) ∙ look_more s w here (array_phase_at s.phases w)
answers_more s (Shut w) here = ap (array_shut_answer (one_place_more s) w) (away_more s.phases w) ∙ shut_more s w here (array_phase_at s.phases w)
answers_more s (Pass w) here = ap (array_pass_answer (one_place_more s) w) (away_more s.phases w) ∙ pass_more s w here (array_phase_at s.phases w)

-- no event changes the number of places
module _ (s : ArrayState) (w : ℕ) where
  draw_places : (b : Bool) (p : ArrayPhase) → length (cond b (array_draw_answer s w p) (s, Nothing)).0.phases ≡ length s.phases
  draw_places false p = refl
  draw_places true Away = length-set s.phases w (Waiting s.next)
  draw_places true (Waiting t) = refl
  draw_places true (Inside t) = refl
  draw_places true (Leaving t) = refl

  look_places : (p : ArrayPhase) → length (array_look_answer s w p).0.phases ≡ length s.phases
  look_places Away = refl
  look_places (Waiting t) = by (flag_at s.flags (flag_of t)) where
    by : (b : Bool) → length (cond {A = ArrayState × ArrayOutcome} b (record s { phases = set s.phases w (Inside t) }, Enters t) (s, Waits)).0.phases ≡ length s.phases
    by true = length-set s.phases w (Inside t)
    by false = refl
  look_places (Inside t) = refl
  look_places (Leaving t) = refl

  shut_places : (p : ArrayPhase) → length (array_shut_answer s w p).0.phases ≡ length s.phases
  shut_places Away = refl
  shut_places (Waiting t) = refl
  shut_places (Inside t) = length-set s.phases w (Leaving t)
  shut_places (Leaving t) = refl

  pass_places : (p : ArrayPhase) → length (array_pass_answer s w p).0.phases ≡ length s.phases
  pass_places Away = refl
  pass_places (Waiting t) = refl
  pass_places (Inside t) = refl
  pass_places (Leaving t) = length-set s.phases w Away

pub same_places : (s : ArrayState) (e : ArrayEvent) → length (array_answer s e).0.phases ≡ length s.phases
same_places s (Draw w) = draw_places s w (nat_lt w (length s.phases) && nat_lt s.next greatest_next) (array_phase_at s.phases w)
same_places s (Look w) = look_places s w (array_phase_at s.phases w)
same_places s (Shut w) = shut_places s w (array_phase_at s.phases w)
same_places s (Pass w) = pass_places s w (array_phase_at s.phases w)

-- a run of the other places is as before
pub run_more : (s : ArrayState) (es : List ArrayEvent) (n : ℕ) → n ≡ length s.phases → AllWithin n es → array_after_all (one_place_more s) es ≡ one_place_more (array_after_all s es)
run_more s [] n size w = refl
run_more s (e ∷ es) n size w = let first = w.0 in
    ap (λ (a : ArrayState × ArrayOutcome). array_after_all a.0 es) (answers_more s e (omega arith))
    ∙ run_more (array_answer s e).0 es n (size ∙ sym (same_places s e)) w.1

-- a new lock of one place more
pub new_more : (n : ℕ) → new_array_lock (n + 1) ≡ one_place_more (new_array_lock n)
new_more n = ap (λ (l : List ArrayPhase). record { next = 0; flags = (new_array_lock n).flags; phases = l }) (sym (replicate-append-replicate n 1 Away))
