-- What holds of the ticket lock after every list of events, and the order in which places enter.
use Rattle.std.proofs.Common.{◌≡◌, ℕ, zero, suc, ◌+◌, ◌<◌, Bool, true, false, cond, Option, Some, None, List, [], ◌∷◌, ◌++◌, length, get_or, set, sym, refl, ap, ◌∙◌, subst, ◌&&◌, arith, zero-add}
use Rattle.std.specs.Prelude.{count_by, nat_lt, ◌==◌}
use Rattle.std.specs.List.{cons_option}
use Rattle.std.proofs.lemmas.Bool.Decides.{nat_tests}
use Rattle.std.proofs.lemmas.List.Sums.{sum_by-set, sum_by-cons}
use Rattle.ticket_core.proofs.lemmas.TicketLawful.{is_there, nobody_inside, draws, enters, leaves, new_lawful, sum_by-replicate_zero}
use Rattle.ticket_core.specs.declared.ticket_lock.Phase.{Phase}
use Rattle.ticket_core.specs.declared.ticket_lock.Phase.TheVariants.{Away, Waiting, Inside}
use Rattle.ticket_core.specs.declared.ticket_lock.Event.{Event}
use Rattle.ticket_core.specs.declared.ticket_lock.Event.TheVariants.{Draw, Look, Leave}
use Rattle.ticket_core.specs.declared.ticket_lock.Outcome.{Outcome}
use Rattle.ticket_core.specs.declared.ticket_lock.Outcome.TheVariants.{Waits, Enters, Nothing}
use Rattle.ticket_core.specs.TicketLock.{LockState, IsLawful, AtMostOneInside, phase_at, ticket_of}
use Rattle.ticket_core.specs.TicketSteps.{new_lock, greatest_next, draw_answer, look_answer, leave_answer, answer, answers, after_all}
use Rattle.ticket_core.specs.Order.{entry_of, entries, IsTicketOrder}

-- a place in this phase is inside
abbrev pub is_inside : Phase → Bool
is_inside (Inside t) = true
is_inside _ = false

-- how many are inside of a place in this phase
abbrev pub insiders_of : Phase → ℕ
insiders_of p = cond (is_inside p) 1 0

-- the ticket of the next entry: the served one, or the one after it where somebody is inside
abbrev pub due : LockState → ℕ
due s = s.serving + count_by is_inside s.phases

-- an entry with the ticket that was due makes the next one due, and without an entry the same one stays due
abbrev pub Advances : ℕ → Option ℕ → ℕ → Type 0
Advances k (Some t) k' = (t ≡ k) × (k' ≡ k + 1)
Advances k None k' = k' ≡ k

-- the state after an event is lawful, and the event advanced what is due
abbrev pub Steps : LockState → LockState × Outcome → Type 0
Steps s a = IsLawful a.0 × Advances (due s) (entry_of a.1) (due a.0)

-- where no place is inside, none is counted
none_inside : (ps : List Phase) → ((v t : ℕ) → phase_at ps v ≡ Inside t → ⊥) → count_by is_inside ps ≡ 0
none_inside [] nobody = refl
none_inside (Away ∷ ps) nobody = sum_by-cons insiders_of Away ps ∙ (zero-add _ ∙ none_inside ps (λ v t e. nobody (suc v) t e))
none_inside (Waiting u ∷ ps) nobody = sum_by-cons insiders_of (Waiting u) ps ∙ (zero-add _ ∙ none_inside ps (λ v t e. nobody (suc v) t e))
none_inside (Inside u ∷ ps) nobody = absurd (nobody 0 u refl)

module _ (s : LockState) (w : ℕ) (law : IsLawful s) where
  -- a draw, by what the test of `answer` gave and by the place's phase
  draw_steps : (b : Bool) → (nat_lt w (length s.phases) && nat_lt s.next greatest_next) ≡ b → (p : Phase) → phase_at s.phases w ≡ p
      → Steps s (cond b (draw_answer s w p) (s, Nothing))
  draw_steps false test p at = (law, refl)
  draw_steps true test Away at = let room : w < length s.phases = grind (arith, nat_tests) in
      let moved = sum_by-set insiders_of s.phases w (Waiting s.next) Away room in
      let none : insiders_of (phase_at s.phases w) ≡ 0 = ap insiders_of at in
      (draws s w law room at, omega arith)
  draw_steps true test (Waiting t) at = (law, refl)
  draw_steps true test (Inside t) at = (law, refl)

  -- a look of a place that waits, by whether its ticket is served
  look_waiting_steps : (t : ℕ) → phase_at s.phases w ≡ Waiting t → (b : Bool) → (t == s.serving) ≡ b
      → Steps s (cond b (record { next = s.next; serving = s.serving; phases = set s.phases w (Inside t) }, Enters t) (s, Waits))
  look_waiting_steps t at false test = (law, refl)
  look_waiting_steps t at true test = let turn : t ≡ s.serving = grind (arith, nat_tests) in
      let empty = none_inside s.phases (nobody_inside s w law t at turn) in
      let room : w < length s.phases = is_there s.phases w t (ap ticket_of at) in
      let moved = sum_by-set insiders_of s.phases w (Inside t) Away room in
      let none : insiders_of (phase_at s.phases w) ≡ 0 = ap insiders_of at in
      (enters s w law t at turn, (omega arith, omega arith))

  -- a look, by the place's phase
  look_steps : (p : Phase) → phase_at s.phases w ≡ p → Steps s (look_answer s w p)
  look_steps Away at = (law, refl)
  look_steps (Waiting t) at = look_waiting_steps t at (t == s.serving) refl
  look_steps (Inside t) at = (law, refl)

  -- a leave, by the place's phase
  leave_steps : (p : Phase) → phase_at s.phases w ≡ p → Steps s (leave_answer s w p)
  leave_steps Away at = (law, refl)
  leave_steps (Waiting t) at = (law, refl)
  leave_steps (Inside t) at = let room : w < length s.phases = is_there s.phases w t (ap ticket_of at) in
      let moved = sum_by-set insiders_of s.phases w Away Away room in
      let one : insiders_of (phase_at s.phases w) ≡ 1 = ap insiders_of at in
      (leaves s w law t at, omega arith)

-- each event keeps the state lawful, and advances what is due
pub steps : (s : LockState) (e : Event) → IsLawful s → Steps s (answer s e)
steps s (Draw w) law =
    draw_steps s w law (nat_lt w (length s.phases) && nat_lt s.next greatest_next) refl (phase_at s.phases w) refl
steps s (Look w) law = look_steps s w law (phase_at s.phases w) refl
steps s (Leave w) law = leave_steps s w law (phase_at s.phases w) refl

-- the state after every list of events is lawful
pub all_lawful : (s : LockState) → IsLawful s → (es : List Event) → IsLawful (after_all s es)
all_lawful s law [] = law
all_lawful s law (e ∷ es) = all_lawful (answer s e).0 (steps s e law).0 es

-- one event more at the end leads one step on
pub after_all-append : (s : LockState) (es : List Event) (e : Event) → after_all s (es ++ e ∷ []) ≡ (answer (after_all s es) e).0
after_all-append s [] e = refl
after_all-append s (d ∷ es) e = after_all-append (answer s d).0 es e

-- and its outcome is the last
pub answers-append : (s : LockState) (es : List Event) (e : Event)
    → answers s (es ++ e ∷ []) ≡ answers s es ++ (answer (after_all s es) e).1 ∷ []
answers-append s [] e = refl
answers-append s (d ∷ es) e = ap (λ (os : List Outcome). (answer s d).1 ∷ os) (answers-append (answer s d).0 es e)

-- at most one place of a lawful state is inside
pub lawful_one_inside : (s : LockState) → IsLawful s → AtMostOneInside s.phases
lawful_one_inside s law v w t u a b =
    law.distinct v w t (ap ticket_of a) (ap ticket_of b ∙ ap Some (law.served w u b ∙ sym (law.served v t a)))

-- the tickets are k, k + 1, and so on
abbrev CountsFrom : ℕ → List ℕ → Type 0
CountsFrom k [] = Unit {0}
CountsFrom k (t ∷ ts) = (t ≡ k) × CountsFrom (k + 1) ts

-- an outcome that advances what is due goes before tickets that count from there
counts_on : (k k' : ℕ) (entry : Option ℕ) (ts : List ℕ) → Advances k entry k' → CountsFrom k' ts → CountsFrom k (cons_option entry ts)
counts_on k k' (Some t) ts step rest = (step.0, subst (λ (j : ℕ). CountsFrom j ts) step.1 rest)
counts_on k k' None ts step rest = subst (λ (j : ℕ). CountsFrom j ts) step rest

-- the entries of a run count from the ticket that is due
counts_from_due : (s : LockState) → IsLawful s → (es : List Event) → CountsFrom (due s) (entries (answers s es))
counts_from_due s law [] = tt
counts_from_due s law (e ∷ es) = let first = steps s e law in
    counts_on (due s) (due (answer s e).0) (entry_of (answer s e).1) (entries (answers (answer s e).0 es))
    first.1 (counts_from_due (answer s e).0 first.0 es)

-- tickets that count from k have at each index i the ticket k + i
get_or-counts : (k : ℕ) (ts : List ℕ) → CountsFrom k ts → (i : ℕ) → i < length ts → get_or ts i 0 ≡ k + i
get_or-counts k [] counts i small = absurd (omega arith)
get_or-counts k (t ∷ ts) counts zero small = let first = counts.0 in omega arith
get_or-counts k (t ∷ ts) counts (suc i) small = let rest = get_or-counts (k + 1) ts counts.1 i (omega arith) in omega arith

-- of a new lock the ticket 0 is due
new_due : (places : ℕ) → due (new_lock places) ≡ 0
new_due places = let none = sum_by-replicate_zero insiders_of places refl in omega arith

-- the entries of a run of a new lock have the tickets 0, 1, and so on
pub entries_in_order : (places : ℕ) (es : List Event) → IsTicketOrder (entries (answers (new_lock places) es))
entries_in_order places es i small =
    let new = new_lock places in
    let counts = counts_from_due new (new_lawful places) es in
    let none = new_due places in
    let at = get_or-counts (due new) (entries (answers new es)) counts i small in omega arith
