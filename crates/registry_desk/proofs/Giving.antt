-- The opening seat gives a seat.
use Rattle.std.proofs.Common.{◌≡◌, ℕ, zero, suc, ◌+◌, ◌<◌, ◌≢◌, ◌⊎◌, true, false, List, [], ◌∷◌, ◌++◌, map, length, get_or, set, sym, refl, ap, ◌∙◌, subst, inl, inr, ⊎_elim, arith, length-append, length-set}
use Rattle.std.proofs.lemmas.List.{map-set, length-map}
use Rattle.std.proofs.lemmas.List.Sums.{sum_by_push}
use mathlib.Core.Logic.{dite}
use mathlib.Core.Option.{some, some-injective, some-ne-none}
use mathlib.Core.List.{map-append}
use native.Mathlib.Decide.{ℕ_discrete}
use lib.ListN.{get_elem?}
use Rattle.atomic_table.specs.Table.{Splits}
use Rattle.atomic_table.proofs.Lists.{at_set, set_else, set_here, set_again, at_longer, at_map}
use Rattle.ticket_core.specs.declared.array_lock.ArrayPhase.{ArrayPhase}
use Rattle.ticket_core.specs.declared.array_lock.ArrayPhase.TheVariants.{Away}
use Rattle.ticket_core.specs.ArrayLock.{IsLawfulArrayState}
use Rattle.registry_desk.specs.declared.view.View.{View}
use Rattle.registry_desk.specs.Views.{phase_of, seats_of, turns_of, spent_view, giving, given_view}
use Rattle.registry_desk.specs.Rule.{flags_of, ViewFits, Kept}
use Rattle.registry_desk.proofs.Lists.{within, sum_set}
use Rattle.registry_desk.proofs.Lock.{lock_more}
use Rattle.registry_desk.proofs.Steps.{one_view, not_spent}

-- an element of a list with one more stands where it stood, or is the new one
pub at_end : {A : Type 0} (l : List A) (a b : A) (j : ℕ) → get_elem? (l ++ a ∷ []) j ≡ some b → (get_elem? l j ≡ some b) ⊎ ((j ≡ length l) × (a ≡ b))
at_end [] a b zero e = inr (refl, some-injective a b e)
at_end [] a b (suc j) e = absurd (some-ne-none b (sym e))
at_end (x ∷ xs) a b zero e = inl e
at_end (x ∷ xs) a b (suc j) e = ⊎_elim inl (λ t. inr (let n = t.0 in omega arith, t.1)) (at_end xs a b j e)

-- the phases stay where a view changes to one in the same phase
pub same_phases : (views : List View) (i : ℕ) (v w : View) → get_elem? views i ≡ some v → w.phase ≡ v.phase → map phase_of (set views i w) ≡ map phase_of views
same_phases views i v w at same = map-set phase_of views i w ∙ (ap (set (map phase_of views) i) same ∙ set_again (map phase_of views) i v.phase (at_map phase_of views i v at))

-- the lock that is shown where the words stay
pub lock_shown : (words : List ℕ) (phases phases' : List ArrayPhase) → phases ≡ phases'
    → IsLawfulArrayState (record { next = get_or words 0 0; flags = flags_of words; phases = phases })
    → IsLawfulArrayState (record { next = get_or words 0 0; flags = flags_of words; phases = phases' })
lock_shown words phases phases' same = subst (λ (l : List ArrayPhase). IsLawfulArrayState (record { next = get_or words 0 0; flags = flags_of words; phases = l })) same

pub gives_seat : (id : ℕ) (v : View) → v.session ≡ 0 → v.spent ≡ false → 0 < v.left → Splits Kept id v (giving v) (given_view v)
gives_seat id v first live some_left s r at =
    let f = r.each id v at in let zero_id : id ≡ 0 = sym (f.own live) ∙ first in let o = f.opens zero_id in let count = o.1 in let room = o.2 in
    let w : View = giving v in let x : View = given_view v in let changed : List View = set s.views id w in let views : List View = changed ++ x ∷ [] in
    let one : length changed ≡ length s.views = length-set s.views id w in
    let size : length views ≡ length s.views + 1 = let e = length-append changed (x ∷ []) in omega arith in
    let phases : map phase_of views ≡ map phase_of s.views ++ Away ∷ [] = map-append phase_of changed (x ∷ []) ∙ ap (λ (l : List ArrayPhase). l ++ Away ∷ []) (same_phases s.views id v w at refl) in
    let few : length (map phase_of s.views) < 64 = let e : length (map phase_of s.views) ≡ length s.views = length-map s.views phase_of in omega arith in
    let mine : get_elem? views id ≡ some w = at_longer changed (x ∷ []) id w (set_here s.views id w (within s.views id v at)) in
    let kept : (j : ℕ) (y : View) → j ≢ id → get_elem? s.views j ≡ some y → get_elem? views j ≡ some y = λ j y ne e. at_longer changed (x ∷ []) j y (set_else s.views id j w ne ∙ e) in
    let old_or_new : (P : View → Type 0) (j : ℕ) (u : View) → get_elem? views j ≡ some u → (j ≡ id → P w) → (j ≢ id → get_elem? s.views j ≡ some u → P u) → (j ≡ length s.views → P x) → P u =
    λ P j u e is_mine is_old is_new. ⊎_elim
    (λ (t : get_elem? changed j ≡ some u). ⊎_elim
    (λ (k : (j ≡ id) × (w ≡ u)). subst P k.1 (is_mine k.0))
    (λ (k : (j ≢ id) × (get_elem? s.views j ≡ some u)). is_old k.0 k.1)
    (at_set s.views id j w u t))
    (λ (t : (j ≡ length changed) × (x ≡ u)). subst P t.1 (is_new (t.0 ∙ one)))
    (at_end changed x u j e) in
    let still_spent : (j : ℕ) → get_elem? s.views j ≡ some spent_view → get_elem? views j ≡ some spent_view =
    λ j gone. kept j spent_view (not_spent s.views id j v at live gone) gone in record {
      history = r.history;
      limit = r.limit;
      words = r.words;
      lock = lock_shown s.words (map phase_of s.views ++ Away ∷ []) (map phase_of views) (sym phases) (lock_more (record { next = get_or s.words 0 0; flags = flags_of s.words; phases = map phase_of s.views }) r.lock few);
      total = let a = sum_set turns_of s.views id v w at in let b = sum_by_push turns_of changed x in let t = r.total in omega arith;
      some_seat = omega arith;
      seats = let a = sum_set seats_of s.views id v w at in let b = sum_by_push seats_of changed x in let t = r.seats in omega arith;
      each = λ j u e. old_or_new (ViewFits (length views) r.history r.limit j) j u e
          (λ is. subst (λ (k : ℕ). ViewFits (length views) r.history r.limit k w) (sym is) (record {
            own = f.own;
            gone = λ e. absurd (let clash : true ≡ false = sym e ∙ live in cc);
            turns = f.turns;
            met_turns = f.met_turns;
            opened = f.opened;
            front = f.front;
            list = f.list;
            limited = f.limited;
            mark = f.mark;
            opens = λ _. (live, omega arith, omega arith);
            holding = f.holding;
            known = f.known;
          }))
          (λ ne old. let g = r.each j u old in record {
            own = g.own;
            gone = g.gone;
            turns = g.turns;
            met_turns = g.met_turns;
            opened = g.opened;
            front = g.front;
            list = g.list;
            limited = g.limited;
            mark = g.mark;
            opens = λ z. absurd (ne (z ∙ sym zero_id));
            holding = g.holding;
            known = g.known;
          })
          (λ last. record {
            own = λ _. omega arith;
            gone = λ e. absurd (cc);
            turns = omega arith;
            met_turns = omega arith;
            opened = f.opened;
            front = f.front;
            list = λ _. r.later (v.given + 1) (omega arith);
            limited = λ _. f.limited live;
            mark = λ e. absurd (cc);
            opens = λ z. absurd (let n = r.some_seat in omega arith);
            holding = λ t e. absurd (cc);
            known = λ k m e. absurd (some-ne-none m (sym e));
          });
      apart = λ i k u m a b. old_or_new (λ (y : View). get_elem? y.met k ≡ some m → get_elem? views m.session ≡ some spent_view) i u a
          (λ is q. still_spent m.session (r.apart id k v m at q))
          (λ ne old q. still_spent m.session (r.apart i k u m old q))
          (λ last q. absurd (some-ne-none m (sym q))) b;
      joined = λ j gone. let was : get_elem? s.views j ≡ some spent_view = ⊎_elim
          (λ (t : get_elem? changed j ≡ some spent_view). ⊎_elim
          (λ (z : (j ≡ id) × (w ≡ spent_view)). absurd (let clash : true ≡ false = sym (ap (λ (y : View). y.spent) z.1) ∙ live in cc))
          (λ (z : (j ≢ id) × (get_elem? s.views j ≡ some spent_view)). z.1)
          (at_set s.views id j w spent_view t))
          (λ (t : (j ≡ length changed) × (x ≡ spent_view)). absurd (let clash = ap (λ (y : View). y.spent) t.1 in cc))
          (at_end changed x spent_view j gone) in
          let old = r.joined j was in dite (ℕ_discrete old.0 id)
          (λ e. let is = one_view s.views id old.0 v old.2 at old.4 e in (id, old.1, w, old.3, mine, ap (λ (y : View). get_elem? y.met old.1) (sym is) ∙ old.5, old.6))
          (λ ne. (old.0, old.1, old.2, old.3, kept old.0 old.2 ne old.4, old.5, old.6));
      registry = r.registry;
      bounded = r.bounded;
      later = λ session l. r.later session (omega arith);
      at_home = λ nobody. r.at_home (λ i t y e inside. dite (ℕ_discrete i id)
          (λ is. nobody id t w mine (ap phase_of (sym (one_view s.views id i v y at e is)) ∙ inside))
          (λ other. nobody i t y (kept i y other e) inside));
    }
