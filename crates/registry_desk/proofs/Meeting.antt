-- The opening seat meets another one.
use Rattle.std.proofs.Common.{◌≡◌, ℕ, ◌+◌, ◌*◌, ◌≤◌, ◌≢◌, Bool, true, false, cond, List, [], ◌∷◌, map, length, get_or, set, sym, refl, ap, ◌∙◌, subst, ⊎_elim, arith, length-append, length-set}
use Rattle.std.specs.Prelude.{nat_le}
use Rattle.std.proofs.lemmas.List.Sums.{get_or-le-sum_by}
use mathlib.Core.Logic.{dite}
use mathlib.Core.Option.{some, none, some-ne-none}
use mathlib.Core.List.{IsPrefix}
use native.Mathlib.Decide.{ℕ_discrete}
use lib.ListN.{get_elem?}
use Rattle.atomic_table.specs.Table.{step, keeps, Allows, Joins}
use Rattle.atomic_table.proofs.Lists.{at_set, set_else, set_here, set_again, at_snoc, at_longer, at_last}
use Rattle.ticket_core.specs.declared.array_lock.ArrayPhase.TheVariants.{Away, Inside}
use Rattle.work_registry.specs.EntryValue.{EntryValue}
use Rattle.registry_desk.specs.declared.view.View.{View}
use Rattle.registry_desk.specs.declared.view.Met.{Met}
use Rattle.registry_desk.specs.Views.{phase_of, seats_of, turns_of, spent_view, max_turns, met_of, meeting}
use Rattle.registry_desk.specs.Rule.{MetFits, ViewFits, Kept}
use Rattle.registry_desk.specs.Plays.{Seated, Counts}
use Rattle.registry_desk.specs.declared.seat.Counts.{Counts as CountsOf}
use Rattle.registry_desk.specs.Standing.{Rests}
use Rattle.registry_desk.proofs.Lists.{within, read, sum_set}
use Rattle.registry_desk.proofs.Steps.{one_view, not_spent, own_seats, same_words}
use Rattle.registry_desk.proofs.Giving.{same_phases, lock_shown}
use Rattle.registry_desk.proofs.Shutting.{marked_now}

longer_fits : (history xs ys : List EntryValue) (b : Bool) → IsPrefix xs history → IsPrefix ys history → IsPrefix (cond b ys xs) history
longer_fits history xs ys true p q = q
longer_fits history xs ys false p q = p

pub meets_seat : (id : ℕ) (v : View) (other : ℕ) (w : View) → v.session ≡ 0 → v.spent ≡ false → w.spent ≡ false → w.phase ≡ Away → (w.session ≢ 0 → w.met ≡ [])
    → Joins Kept id v other w (meeting v w) spent_view
meets_seat id v other w first live live' away unmet s r at apart at' =
    let f = r.each id v at in let zero_id : id ≡ 0 = sym (f.own live) ∙ first in
    let both : View = meeting v w in let changed : List View = set s.views id both in let views : List View = set changed other spent_view in
    let there_w : get_elem? s.views other ≡ some w = sym (set_else s.views id other both apart) ∙ at' in let g = r.each other w there_w in
    let lone : w.met ≡ [] = unmet (λ z. apart (sym (g.own live') ∙ (z ∙ sym zero_id))) in
    let one : length changed ≡ length s.views = length-set s.views id both in
    let size : length views ≡ length s.views = length-set changed other spent_view ∙ one in
    let phases : map phase_of views ≡ map phase_of s.views = same_phases changed other w spent_view at' (sym away) ∙ same_phases s.views id v both at refl in
    let mine : get_elem? views id ≡ some both = set_else changed other id spent_view (λ z. apart (sym z)) ∙ set_here s.views id both (within s.views id v at) in
    let put : get_elem? views other ≡ some spent_view = set_here changed other spent_view (let n = within s.views other w there_w in omega arith) in
    let kept : (j : ℕ) (y : View) → j ≢ other → j ≢ id → get_elem? s.views j ≡ some y → get_elem? views j ≡ some y =
    λ j y ne ne' e. set_else changed other j spent_view ne ∙ (set_else s.views id j both ne' ∙ e) in
    let which : (P : View → Type 0) (j : ℕ) (u : View) → get_elem? views j ≡ some u → (j ≡ other → P spent_view) → (j ≡ id → P both) → (j ≢ id → get_elem? s.views j ≡ some u → P u) → P u =
    λ P j u e is_gone is_both is_old. ⊎_elim
    (λ (t : (j ≡ other) × (spent_view ≡ u)). subst P t.1 (is_gone t.0))
    (λ (t : (j ≢ other) × (get_elem? changed j ≡ some u)). ⊎_elim
    (λ (k : (j ≡ id) × (both ≡ u)). subst P k.1 (is_both k.0))
    (λ (k : (j ≢ id) × (get_elem? s.views j ≡ some u)). is_old k.0 k.1)
    (at_set s.views id j both u t.1))
    (at_set changed other j spent_view u e) in
    let one_w : seats_of w ≡ 1 = own_seats w live' ∙ ap (λ (l : List Met). 1 + length l) lone in
    let one_v = own_seats v live in let one_b = own_seats both live in
    let more = length-append v.met (met_of w ∷ []) in
    let new_met : MetFits r.history r.limit (met_of w) = record { list = g.list live'; front = g.front; mark = g.mark } in
    let bound : both.met_turns ≤ length both.met * max_turns = let a = f.met_turns in let b = g.turns in let c = g.met_turns in
    let ec : length both.met * max_turns ≡ (length v.met + 1) * max_turns = ap (λ (k : ℕ). k * max_turns) more in
    let ew : length w.met * max_turns ≡ 0 = ap (λ (l : List Met). length l * max_turns) lone in omega arith in
    let still_spent : (j : ℕ) → get_elem? s.views j ≡ some spent_view → get_elem? views j ≡ some spent_view =
    λ j gone. kept j spent_view (not_spent s.views other j w there_w live' gone) (not_spent s.views id j v at live gone) gone in record {
      history = r.history;
      limit = r.limit;
      words = r.words;
      lock = lock_shown s.words (map phase_of s.views) (map phase_of views) (sym phases) r.lock;
      total = let a = sum_set turns_of s.views id v both at in let b = sum_set turns_of changed other w spent_view at' in let t = r.total in omega arith;
      some_seat = let n = r.some_seat in omega arith;
      seats = let a = sum_set seats_of s.views id v both at in let b = sum_set seats_of changed other w spent_view at' in let t = r.seats in omega arith;
      each = λ j u e. subst (λ (n : ℕ). ViewFits n r.history r.limit j u) (sym size) (which (ViewFits (length s.views) r.history r.limit j) j u e
          (λ is. record {
            own = λ e. absurd (cc);
            gone = λ e. refl;
            turns = omega arith;
            met_turns = omega arith;
            opened = (r.history, refl);
            front = (r.history, refl);
            list = λ e. absurd (cc);
            limited = λ e. absurd (cc);
            mark = λ e. absurd (cc);
            opens = λ z. absurd (apart (sym is ∙ (z ∙ sym zero_id)));
            holding = λ t e. absurd (cc);
            known = λ k m e. absurd (some-ne-none m (sym e));
          })
          (λ is. subst (λ (k : ℕ). ViewFits (length s.views) r.history r.limit k both) (sym is) (record {
            own = f.own;
            gone = λ e. absurd (let clash : true ≡ false = sym e ∙ live in cc);
            turns = f.turns;
            met_turns = bound;
            opened = f.opened;
            front = longer_fits r.history v.front w.front (nat_le (length v.front) (length w.front)) f.front g.front;
            list = f.list;
            limited = f.limited;
            mark = marked_now w.marked v.marked (length r.history ≡ r.limit) g.mark f.mark;
            opens = f.opens;
            holding = f.holding;
            known = λ k m e. ⊎_elim (λ (z : get_elem? v.met k ≡ some m). f.known k m z) (λ (z : met_of w ≡ m). subst (MetFits r.history r.limit) z new_met) (at_snoc v.met (met_of w) m k e);
          }))
          (λ ne old. r.each j u old));
      apart = λ i k u m a b. which (λ (y : View). get_elem? y.met k ≡ some m → get_elem? views m.session ≡ some spent_view) i u a
          (λ is q. absurd (some-ne-none m (sym q)))
          (λ is q. ⊎_elim
          (λ (z : get_elem? v.met k ≡ some m). still_spent m.session (r.apart id k v m at z))
          (λ (z : met_of w ≡ m). ap (λ (n : Met). get_elem? views n.session) (sym z) ∙ (ap (get_elem? views) (g.own live') ∙ put))
          (at_snoc v.met (met_of w) m k q))
          (λ ne old q. still_spent m.session (r.apart i k u m old q)) b;
      joined = λ j gone. dite (ℕ_discrete j other)
          (λ e. (id, length v.met, both, met_of w, mine, at_last v.met (met_of w) (length v.met) refl, g.own live' ∙ sym e))
          (λ ne. let was : get_elem? s.views j ≡ some spent_view = ⊎_elim
          (λ (t : (j ≡ other) × (spent_view ≡ spent_view)). absurd (ne t.0))
          (λ (t : (j ≢ other) × (get_elem? changed j ≡ some spent_view)). ⊎_elim
          (λ (z : (j ≡ id) × (both ≡ spent_view)). absurd (let clash : true ≡ false = sym (ap (λ (y : View). y.spent) z.1) ∙ live in cc))
          (λ (z : (j ≢ id) × (get_elem? s.views j ≡ some spent_view)). z.1)
          (at_set s.views id j both spent_view t.1))
          (at_set changed other j spent_view spent_view gone) in
          let old = r.joined j was in dite (ℕ_discrete old.0 id)
          (λ e. let is = one_view s.views id old.0 v old.2 at old.4 e in
          (id, old.1, both, old.3, mine, at_longer v.met (met_of w ∷ []) old.1 old.3 (ap (λ (y : View). get_elem? y.met old.1) (sym is) ∙ old.5), old.6))
          (λ ne_id. dite (ℕ_discrete old.0 other)
          (λ e. let is = one_view s.views other old.0 w old.2 there_w old.4 e in
          absurd (some-ne-none old.3 (sym (ap (λ (l : List Met). get_elem? l old.1) (sym (ap (λ (y : View). y.met) is ∙ lone)) ∙ old.5))))
          (λ ne_other. (old.0, old.1, old.2, old.3, kept old.0 old.2 ne_other ne_id old.4, old.5, old.6))));
      registry = r.registry;
      bounded = r.bounded;
      later = λ session l. r.later session (omega arith);
      at_home = λ nobody. r.at_home (λ i t y e inside. dite (ℕ_discrete i other)
          (λ is. let same = one_view s.views other i w y there_w e is in let clash : Inside t ≡ Away = sym inside ∙ (ap phase_of same ∙ away) in absurd (cc))
          (λ ne. dite (ℕ_discrete i id)
          (λ is. nobody id t both mine (ap phase_of (sym (one_view s.views id i v y at e is)) ∙ inside))
          (λ ne'. nobody i t y (kept i y ne ne' e) inside)));
    }

-- the opening seat has met no more seats than it gave
pub count_allowed : (slots id : ℕ) (me : Seated) → me.0.session ≡ 0 → me.0.spent ≡ false → Allows Kept slots id me 0 (λ n. n) (Counts (step slots 0 0 0 none) me)
count_allowed slots id me first live s r size at small = let v : View = me.0 in let f = r.each id v at in let o = f.opens (sym (f.own live) ∙ first) in
    let one_v = own_seats v live in
    let g = get_or-le-sum_by seats_of s.views id v (within s.views id v at) in let e : seats_of (get_or s.views id v) ≡ seats_of v = ap seats_of (read s.views id v v at) in
    let still : set s.words 0 (get_or s.words 0 0) ≡ s.words = same_words s.words 0 (let w = r.words in omega arith) in (
      v,
      keeps,
      tt,
      subst Kept (λ i. record { words = sym still i; homes = s.homes; views = sym (set_again s.views id v at) i }) r,
      (refl, let n = r.seats in let c = o.1 in omega arith),
    )

-- the opening seat rests as before, with one seat more that it met
pub rests_meeting : (me after : Seated) (c : CountsOf) (w : View) → me.0.session ≡ 0 → Rests me c → after ≡ (meeting me.0 w, me.1)
    → Rests after (record { session = c.session; turns_left = c.turns_left; seats_left = c.seats_left; given = c.given; met = c.met + 1 })
rests_meeting me after c w first r is = let k = r.counted in
    subst (λ (m : Seated). Rests m (record { session = c.session; turns_left = c.turns_left; seats_left = c.seats_left; given = c.given; met = c.met + 1 })) (sym is) (record {
      counted = record {
        live = k.live;
        session = k.session;
        turns = k.turns;
        left = k.left;
        given = k.given;
        met = length-append me.0.met (met_of w ∷ []) ∙ ap (λ (n : ℕ). n + 1) k.met;
        lone = λ other. absurd (other first);
        few = k.few;
        session_small = k.session_small;
        opening = k.opening;
      };
      carries = r.carries;
      away = r.away;
    })
