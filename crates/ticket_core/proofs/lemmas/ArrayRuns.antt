-- What holds of the array lock after every list of events, and each of its runs read as a run of the ticket lock.
use Rattle.std.proofs.Common.{◌≡◌, ℕ, ◌+◌, ◌<◌, ◌≤◌, Bool, true, false, cond, Option, Some, None, List, [], ◌∷◌, ◌++◌, map, length, set, sym, refl, ap, ◌∙◌, subst, ◌&&◌, arith}
use Rattle.std.specs.Prelude.{nat_lt, ◌==◌}
use Rattle.std.specs.List.{cons_option}
use Rattle.std.proofs.lemmas.List.{length-map}
use Rattle.std.proofs.lemmas.Bool.Decides.{nat_tests}
use Rattle.ticket_core.proofs.TicketRuns.{entries_in_order, lawful_one_inside}
use Rattle.ticket_core.proofs.lemmas.ArrayLawful.{phase_is, moved_state, ticket_state-set, ticket_state-new, drawn, entered, unmoved, shut, passed, open_is_served, shut_is_not_served}
use Rattle.ticket_core.proofs.lemmas.ArrayStates.{state_draws, state_enters, state_shuts, state_passes, new_array_lawful}
use Rattle.ticket_core.specs.declared.ticket_lock.Phase.{Phase}
use Rattle.ticket_core.specs.declared.ticket_lock.Phase.TheVariants.{Inside as TicketInside}
use Rattle.ticket_core.specs.declared.ticket_lock.Event.{Event}
use Rattle.ticket_core.specs.declared.ticket_lock.Event.TheVariants.{Draw as TicketDraw, Look as TicketLook}
use Rattle.ticket_core.specs.declared.ticket_lock.Outcome.{Outcome}
use Rattle.ticket_core.specs.declared.ticket_lock.Outcome.TheVariants.{Drew as TicketDrew, Waits as TicketWaits, Enters as TicketEnters, Leaves, Nothing as TicketNothing}
use Rattle.ticket_core.specs.declared.array_lock.ArrayPhase.{ArrayPhase}
use Rattle.ticket_core.specs.declared.array_lock.ArrayPhase.TheVariants.{Away, Waiting, Inside, Leaving}
use Rattle.ticket_core.specs.declared.array_lock.ArrayEvent.{ArrayEvent}
use Rattle.ticket_core.specs.declared.array_lock.ArrayEvent.TheVariants.{Draw, Look, Shut, Pass}
use Rattle.ticket_core.specs.declared.array_lock.ArrayOutcome.{ArrayOutcome}
use Rattle.ticket_core.specs.declared.array_lock.ArrayOutcome.TheVariants.{Waits, Enters, Nothing}
use Rattle.ticket_core.specs.TicketLock.{LockState, AtMostOneInside, phase_at}
use Rattle.ticket_core.specs.TicketSteps.{new_lock, greatest_next, draw_answer, look_answer, leave_answer, answer, answers, after_all}
use Rattle.ticket_core.specs.ArrayLock.{ArrayState, array_phase_at, flag_at, flag_of, ticket_phase, serving_of, ticket_state, IsLawfulArrayState}
use Rattle.ticket_core.specs.ArraySteps.{new_array_lock, array_draw_answer, array_look_answer, array_shut_answer, array_pass_answer, array_answer, array_answers, array_after_all}
use Rattle.ticket_core.specs.Order.{entry_of, array_entry_of, entries, array_entries, IsTicketOrder}
use Rattle.ticket_core.specs.Reading.{ticket_step, ticket_run, IsTicketRun}

-- the state of the ticket lock that a state of the array lock reads as
abbrev pub as_ticket : ArrayState → LockState
as_ticket s = ticket_state s.next s.phases

-- the ticket lock goes from one state to the other by a step, or stays where there is none
abbrev pub ReadsAs : LockState → Option (Event × Outcome) → LockState → Type 0
ReadsAs before None after = after ≡ before
ReadsAs before (Some step) after = answer before step.0 ≡ (after, step.1)

-- the ticket of a step that is an entry
abbrev pub step_entry : Option (Event × Outcome) → Option ℕ
step_entry None = None
step_entry (Some step) = entry_of step.1

-- the state after an event is lawful, and the event reads as a step of the ticket lock or as none, and as the same entry
pub record Steps (s : ArrayState) (e : ArrayEvent) (a : ArrayState × ArrayOutcome) : Type 0 where
  pub lawful : IsLawfulArrayState a.0
  pub reads : ReadsAs (as_ticket s) (ticket_step e a.1) (as_ticket a.0)
  pub entry : array_entry_of a.1 ≡ step_entry (ticket_step e a.1)

module _ (s : ArrayState) (w : ℕ) (law : IsLawfulArrayState s) where
  -- the ticket that is served
  abbrev serving : ℕ
  serving = serving_of s.next s.phases

  -- the ticket lock's answer, once a place has moved, is told of the state that the array lock's reads as
  moves : (next k : ℕ) (p : ArrayPhase) (o : Outcome) → ticket_state next (set s.phases w p) ≡ moved_state next k s.phases w (ticket_phase p)
      → (a : LockState × Outcome) → a ≡ (moved_state next k s.phases w (ticket_phase p), o) → a ≡ (ticket_state next (set s.phases w p), o)
  moves next k p o moved a is = is ∙ ap (λ (t : LockState). (t, o)) (sym moved)

  -- the ticket lock's answer to a draw, by what the test of `answer` gave and by the place's phase
  draw_reads : (b : Bool) → (nat_lt w (length s.phases) && nat_lt s.next greatest_next) ≡ b → (p : ArrayPhase) → array_phase_at s.phases w ≡ p
      → answer (as_ticket s) (TicketDraw w) ≡ cond b (draw_answer (as_ticket s) w (ticket_phase p)) (as_ticket s, TicketNothing)
  draw_reads b test p at =
      let A : Bool → Phase → LockState × Outcome = λ v q. cond v (draw_answer (as_ticket s) w q) (as_ticket s, TicketNothing) in
      ap (λ (n : ℕ). A (nat_lt w n && nat_lt s.next greatest_next) (phase_at (map ticket_phase s.phases) w)) (length-map s.phases ticket_phase)
      ∙ (ap (λ (v : Bool). A v (phase_at (map ticket_phase s.phases) w)) test ∙ ap (A b) (phase_is s.phases w p at))

  -- a draw, by what the test gave and by the place's phase
  draw_steps : (b : Bool) → (nat_lt w (length s.phases) && nat_lt s.next greatest_next) ≡ b → (p : ArrayPhase) → array_phase_at s.phases w ≡ p
      → Steps s (Draw w) (cond b (array_draw_answer s w p) (s, Nothing))
  draw_steps false test p at = record { lawful = law; reads = draw_reads false test p at; entry = refl }
  draw_steps true test Away at =
      let room : w < length s.phases = grind (arith, nat_tests) in
      let after = drawn s.next (flag_at s.flags) s.phases w law.lawful room at in
      record {
        lawful = state_draws s w law room at;
        reads = moves (s.next + 1) serving (Waiting s.next) (TicketDrew s.next)
            (ticket_state-set (s.next + 1) serving w s.phases (Waiting s.next) after) _ (draw_reads true test Away at);
        entry = refl;
      }
  draw_steps true test (Waiting t) at = record { lawful = law; reads = draw_reads true test (Waiting t) at; entry = refl }
  draw_steps true test (Inside t) at = record { lawful = law; reads = draw_reads true test (Inside t) at; entry = refl }
  draw_steps true test (Leaving t) at = record { lawful = law; reads = draw_reads true test (Leaving t) at; entry = refl }

  -- the ticket lock's answer to a look, by the place's phase
  look_reads : (p : ArrayPhase) → array_phase_at s.phases w ≡ p → answer (as_ticket s) (TicketLook w) ≡ look_answer (as_ticket s) w (ticket_phase p)
  look_reads p at = ap (look_answer (as_ticket s) w) (phase_is s.phases w p at)

  -- the same of a place that waits, by whether its ticket is served
  look_waiting_reads : (t : ℕ) → array_phase_at s.phases w ≡ Waiting t → (b : Bool) → (t == serving) ≡ b
      → answer (as_ticket s) (TicketLook w) ≡ cond b (moved_state s.next serving s.phases w (TicketInside t), TicketEnters t) (as_ticket s, TicketWaits)
  look_waiting_reads t at b test = look_reads (Waiting t) at
      ∙ ap (λ (v : Bool). cond v (moved_state s.next serving s.phases w (TicketInside t), TicketEnters t) (as_ticket s, TicketWaits)) test

  -- a look of a place that waits, by whether its flag is open
  look_waiting_steps : (t : ℕ) → array_phase_at s.phases w ≡ Waiting t → (b : Bool) → flag_at s.flags (flag_of t) ≡ b
      → Steps s (Look w) (cond b (record { next = s.next; flags = s.flags; phases = set s.phases w (Inside t) }, Enters t) (s, Waits))
  look_waiting_steps t at false off =
      let other = shut_is_not_served s.next (flag_at s.flags) s.phases w law.lawful t at off in
      let test : (t == serving) ≡ false = grind (arith, nat_tests) in
      record { lawful = law; reads = look_waiting_reads t at false test; entry = refl }
  look_waiting_steps t at true on =
      let turn = open_is_served s.next (flag_at s.flags) s.phases w law.lawful t at on in
      let test : (t == serving) ≡ true = grind (arith, nat_tests) in
      let after = entered s.next (flag_at s.flags) s.phases w law.lawful t at on in
      record {
        lawful = state_enters s w law t at on;
        reads = moves s.next serving (Inside t) (TicketEnters t)
            (ticket_state-set s.next serving w s.phases (Inside t) after) _ (look_waiting_reads t at true test);
        entry = refl;
      }

  -- a look, by the place's phase
  look_steps : (p : ArrayPhase) → array_phase_at s.phases w ≡ p → Steps s (Look w) (array_look_answer s w p)
  look_steps Away at = record { lawful = law; reads = look_reads Away at; entry = refl }
  look_steps (Waiting t) at = look_waiting_steps t at (flag_at s.flags (flag_of t)) refl
  look_steps (Inside t) at = record { lawful = law; reads = look_reads (Inside t) at; entry = refl }
  look_steps (Leaving t) at = record { lawful = law; reads = look_reads (Leaving t) at; entry = refl }

  -- a shut, by the place's phase: no step of the ticket lock
  shut_steps : (p : ArrayPhase) → array_phase_at s.phases w ≡ p → Steps s (Shut w) (array_shut_answer s w p)
  shut_steps Away at = record { lawful = law; reads = refl; entry = refl }
  shut_steps (Waiting t) at = record { lawful = law; reads = refl; entry = refl }
  shut_steps (Inside t) at =
      let after = shut s.next (flag_at s.flags) s.phases w law.lawful t at in
      record {
        lawful = state_shuts s w law t at;
        reads = ticket_state-set s.next serving w s.phases (Leaving t) after ∙ unmoved s.next (flag_at s.flags) s.phases w law.lawful t at;
        entry = refl;
      }
  shut_steps (Leaving t) at = record { lawful = law; reads = refl; entry = refl }

  -- a pass, by the place's phase
  pass_steps : (p : ArrayPhase) → array_phase_at s.phases w ≡ p → Steps s (Pass w) (array_pass_answer s w p)
  pass_steps Away at = record { lawful = law; reads = refl; entry = refl }
  pass_steps (Waiting t) at = record { lawful = law; reads = refl; entry = refl }
  pass_steps (Inside t) at = record { lawful = law; reads = refl; entry = refl }
  pass_steps (Leaving t) at =
      let after = passed s.next (flag_at s.flags) s.phases w law.lawful t at in
      record {
        lawful = state_passes s w law t at;
        reads = moves s.next (serving + 1) Away Leaves
            (ticket_state-set s.next (serving + 1) w s.phases Away after) _ (ap (leave_answer (as_ticket s) w) (phase_is s.phases w (Leaving t) at));
        entry = refl;
      }

-- each event keeps the state lawful, and reads as a step of the ticket lock or as none
pub array_steps : (s : ArrayState) (e : ArrayEvent) → IsLawfulArrayState s → Steps s e (array_answer s e)
array_steps s (Draw w) law =
    draw_steps s w law (nat_lt w (length s.phases) && nat_lt s.next greatest_next) refl (array_phase_at s.phases w) refl
array_steps s (Look w) law = look_steps s w law (array_phase_at s.phases w) refl
array_steps s (Shut w) law = shut_steps s w law (array_phase_at s.phases w) refl
array_steps s (Pass w) law = pass_steps s w law (array_phase_at s.phases w) refl

-- the state after every list of events is lawful
pub array_all_lawful : (s : ArrayState) → IsLawfulArrayState s → (es : List ArrayEvent) → IsLawfulArrayState (array_after_all s es)
array_all_lawful s law [] = law
array_all_lawful s law (e ∷ es) = array_all_lawful (array_answer s e).0 (array_steps s e law).lawful es

-- one event more at the end leads one step on
pub array_after_all-append : (s : ArrayState) (es : List ArrayEvent) (e : ArrayEvent)
    → array_after_all s (es ++ e ∷ []) ≡ (array_answer (array_after_all s es) e).0
array_after_all-append s [] e = refl
array_after_all-append s (d ∷ es) e = array_after_all-append (array_answer s d).0 es e

-- and its outcome is the last
pub array_answers-append : (s : ArrayState) (es : List ArrayEvent) (e : ArrayEvent)
    → array_answers s (es ++ e ∷ []) ≡ array_answers s es ++ (array_answer (array_after_all s es) e).1 ∷ []
array_answers-append s [] e = refl
array_answers-append s (d ∷ es) e = ap (λ (os : List ArrayOutcome). (array_answer s d).1 ∷ os) (array_answers-append (array_answer s d).0 es e)

-- at most one place of a lawful state is inside or leaving
pub array_lawful_one_inside : (s : ArrayState) → IsLawfulArrayState s → AtMostOneInside (map ticket_phase s.phases)
array_lawful_one_inside s law = lawful_one_inside (as_ticket s) law.lawful.tickets

-- a step, or none, goes before a run
reads_on : (before between after : LockState) (step : Option (Event × Outcome)) (steps : List (Event × Outcome))
    → ReadsAs before step between → IsTicketRun between steps after → IsTicketRun before (cons_option step steps) after
reads_on before between after None steps reads run = subst (λ (t : LockState). IsTicketRun t steps after) reads run
reads_on before between after (Some step) steps reads run = let events : List Event = map (λ x. x.0) steps in record {
  state = ap (λ (a : LockState × Outcome). after_all a.0 events) reads ∙ run.state;
  outcomes = ap (λ (a : LockState × Outcome). a.1 ∷ answers a.0 events) reads ∙ ap (λ (os : List Outcome). step.1 ∷ os) run.outcomes;
}

-- a run reads as a run of the ticket lock
pub reads_as_ticket_run : (s : ArrayState) → IsLawfulArrayState s → (es : List ArrayEvent)
    → IsTicketRun (as_ticket s) (ticket_run es (array_answers s es)) (as_ticket (array_after_all s es))
reads_as_ticket_run s law [] = record { state = refl; outcomes = refl }
reads_as_ticket_run s law (e ∷ es) = let a = array_answer s e in let first = array_steps s e law in
    reads_on (as_ticket s) (as_ticket a.0) (as_ticket (array_after_all a.0 es)) (ticket_step e a.1) (ticket_run es (array_answers a.0 es))
    first.reads (reads_as_ticket_run a.0 first.lawful es)

-- a run of a new lock reads as a run of a new ticket lock
pub new_reads_as_ticket_run : (places : ℕ) → places ≤ 64 → (es : List ArrayEvent)
    → IsTicketRun (new_lock places) (ticket_run es (array_answers (new_array_lock places) es)) (as_ticket (array_after_all (new_array_lock places) es))
new_reads_as_ticket_run places few es = let s = new_array_lock places in
    subst (λ (t : LockState). IsTicketRun t (ticket_run es (array_answers s es)) (as_ticket (array_after_all s es)))
    (ticket_state-new places) (reads_as_ticket_run s (new_array_lawful places few) es)

-- the entries of a step, or none, and of the steps after it
entries-cons : (step : Option (Event × Outcome)) (steps : List (Event × Outcome))
    → entries (map (λ x. x.1) (cons_option step steps)) ≡ cons_option (step_entry step) (entries (map (λ x. x.1) steps))
entries-cons None steps = refl
entries-cons (Some step) steps = refl

-- a run has the entries of the run that it reads as
entries-ticket_run : (s : ArrayState) → IsLawfulArrayState s → (es : List ArrayEvent)
    → array_entries (array_answers s es) ≡ entries (map (λ x. x.1) (ticket_run es (array_answers s es)))
entries-ticket_run s law [] = refl
entries-ticket_run s law (e ∷ es) = let a = array_answer s e in let first = array_steps s e law in
    ap (λ (o : Option ℕ). cons_option o (array_entries (array_answers a.0 es))) first.entry
    ∙ (ap (cons_option (step_entry (ticket_step e a.1))) (entries-ticket_run a.0 first.lawful es)
    ∙ sym (entries-cons (ticket_step e a.1) (ticket_run es (array_answers a.0 es))))

-- the entries of a run of a new lock have the tickets 0, 1, and so on
pub array_entries_in_order : (places : ℕ) → places ≤ 64 → (es : List ArrayEvent) → IsTicketOrder (array_entries (array_answers (new_array_lock places) es))
array_entries_in_order places few es = let s = new_array_lock places in let steps = ticket_run es (array_answers s es) in
    let run = new_reads_as_ticket_run places few es in
    subst IsTicketOrder (ap entries run.outcomes ∙ sym (entries-ticket_run s (new_array_lawful places few) es)) (entries_in_order places (map (λ x. x.0) steps))
