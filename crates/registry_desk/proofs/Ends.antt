-- A desk is opened, and closed.
use Rattle.std.proofs.Common.{◌≡◌, ℕ, ◌+◌, ◌-◌, ◌<◌, ◌≤◌, ◌≢◌, Bool, true, false, cond, Option, Some, List, [], ◌∷◌, ◌++◌, length, set, replicate, sym, refl, ap, ◌∙◌, ⊎_elim, subst, arith, append-nil}
use Rattle.std.specs.Prelude.{◌==◌, slice_index, All}
use Rattle.std.specs.List.{sum_by}
use Rattle.std.proofs.lemmas.List.{append_cancel_left}
use Rattle.std.proofs.lemmas.List.Elements.{filter-append}
use mathlib.Core.Logic.{dite}
use mathlib.Core.Option.{Option as Maybe, some, some-ne-none}
use native.Mathlib.Decide.{ℕ_discrete}
use lib.ListN.{get_elem?}
use Rattle.atomic_table.specs.Table.{opening, Final, Seen}
use Rattle.ticket_core.specs.declared.array_lock.ArrayPhase.TheVariants.{Away, Inside}
use Rattle.work_registry.specs.EntryValue.{EntryValue}
use Rattle.work_registry.specs.BookValue.{BookValue}
use Rattle.work_registry.specs.History.{IsHistory}
use Rattle.work_registry.specs.Replay.{made, is_opening}
use Rattle.cwr_field.proofs.lemmas.Tests.{parts}
use Rattle.work_registry.proofs.lemmas.Sessions.{none_made, all_inside}
use Rattle.registry_desk.specs.declared.view.View.{View}
use Rattle.registry_desk.specs.declared.seat.Counts.{Counts}
use Rattle.registry_desk.specs.Plays.{Seated}
use Rattle.registry_desk.specs.Standing.{Rests}
use Rattle.registry_desk.specs.Views.{phase_of, seats_of, spent_view, max_turns, opening_view}
use Rattle.registry_desk.specs.Rule.{ViewFits, Kept}
use Rattle.registry_desk.specs.Closing.{Closes}
use Rattle.registry_desk.proofs.Lists.{there, no_other, prefix_self}
use Rattle.registry_desk.proofs.Lock.{opens_lock}
use Rattle.registry_desk.proofs.Steps.{one_view, own_seats}
use Rattle.registry_desk.proofs.Giving.{at_end}

-- of a history of the opening alone all entries are the opening's
pub all_made : (h : List EntryValue) → is_opening h ≡ true → made h 0 ≡ h
all_made [] e = refl
all_made (x ∷ xs) e = let t = parts (x.session == 0) (is_opening xs) e in
    ap (λ (b : Bool). cond b (x ∷ made xs 0) (made xs 0)) t.0 ∙ ap (λ (l : List EntryValue). x ∷ l) (all_made xs t.1)

pub opens_desk : (words : List ℕ) (b : BookValue) (seats : ℕ) → words ≡ set (replicate 65 0) 1 1 → IsHistory b.history → length b.history ≤ b.limit → is_opening b.history ≡ true
    → 0 < seats → seats ≤ 64 → Kept (opening words (Some b ∷ []) (opening_view b seats))
opens_desk words b seats are lawful fits new some_seats few = let v : View = opening_view b seats in
    let only : (P : ℕ → View → Type 0) (i : ℕ) (u : View) → get_elem? (v ∷ []) i ≡ some u → P 0 v → P i u = λ P i u e p. ⊎_elim
    (λ (t : get_elem? [] i ≡ some u). absurd (some-ne-none u (sym t)))
    (λ (t : (i ≡ 0) × (v ≡ u)). subst (λ (z : ℕ × View). P z.0 z.1) (λ k. (sym t.0 k, t.1 k)) p)
    (at_end [] v u i e) in record {
      history = b.history;
      limit = b.limit;
      words = ap length are;
      lock = opens_lock words v are refl;
      total = ap (λ (l : List ℕ). slice_index l 0) (sym are);
      some_seat = omega arith;
      seats = refl;
      each = λ i u e. only (ViewFits 1 b.history b.limit) i u e (record {
        own = λ _. refl;
        gone = λ z. absurd (cc);
        turns = omega arith;
        met_turns = omega arith;
        opened = prefix_self b.history;
        front = prefix_self b.history;
        list = λ _. all_made b.history new;
        limited = λ _. refl;
        mark = λ z. absurd (cc);
        opens = λ _. (refl, refl, omega arith);
        holding = λ t z. absurd (cc);
        known = λ k m z. absurd (some-ne-none m (sym z));
      });
      apart = λ i k u m e f. absurd (only (λ j y. get_elem? y.met k ≡ some m → ⊥) i u e (λ q. some-ne-none m (sym q)) f);
      joined = λ j gone. absurd (only (λ i y. y.spent ≡ true → ⊥) j spent_view gone (λ q. cc) refl);
      registry = lawful;
      bounded = fits;
      later = λ session l. none_made b.history session l new;
      at_home = λ _. refl;
    }

-- a session's own entries are its own
made_again : (h : List EntryValue) (s : ℕ) → made (made h s) s ≡ made h s
made_again [] s = refl
made_again (x ∷ xs) s = by (x.session == s) refl (made_again xs s) where
  by : (b : Bool) → (x.session == s) ≡ b → made (made xs s) s ≡ made xs s → made (cond b (x ∷ made xs s) (made xs s)) s ≡ cond b (x ∷ made xs s) (made xs s)
  by true e again = ap (λ (b : Bool). cond b (x ∷ made (made xs s) s) (made (made xs s) s)) e ∙ ap (λ (l : List EntryValue). x ∷ l) again
  by false e again = again

tail_nil : {A : Type 0} (xs ys : List A) → xs ++ ys ≡ [] → ys ≡ []
tail_nil [] ys e = e
tail_nil (x ∷ xs) ys e = absurd (cc)

-- what a history has after the opening is of sessions 1 to n, where the opening's entries are the first ones and no entry is of a later session
after_opening : (n : ℕ) (h opened added : List EntryValue) → h ≡ opened ++ added → made h 0 ≡ opened → ((s : ℕ) → n < s → made h s ≡ [])
    → All (λ e. (1 ≤ e.session) × (e.session ≤ n)) added
after_opening n h opened added grown first later =
    let split : (s : ℕ) → made h s ≡ made opened s ++ made added s = λ s. ap (λ (l : List EntryValue). made l s) grown ∙ filter-append (λ e. e.session == s) opened added in
    let own : made opened 0 ≡ opened = ap (λ (l : List EntryValue). made l 0) (sym first) ∙ (made_again h 0 ∙ first) in
    let none : made added 0 ≡ [] = append_cancel_left opened (made added 0) []
    (ap (λ (l : List EntryValue). l ++ made added 0) (sym own) ∙ (sym (split 0) ∙ (first ∙ sym (append-nil opened)))) in
    all_inside n added none (λ s lt. tail_nil (made opened s) (made added s) (sym (split s) ∙ later s lt))

no_seats : (spent : Bool) (n : ℕ) → cond spent 0 (1 + n) ≡ 0 → spent ≡ true
no_seats true n e = refl
no_seats false n e = absurd (omega arith)

-- by the opening seat, which has met each seat that it gave
pub closes_desk : (id : ℕ) (v : View) (words : List ℕ) (slots : List (Option BookValue)) → v.session ≡ 0 → v.spent ≡ false → v.phase ≡ Away → v.list ≡ v.opened → length v.met ≡ v.given
    → Final (Seen Kept id v) words slots → (b : BookValue) × (get_elem? slots 0 ≡ some (Some b)) × Closes v b
closes_desk id v words slots first live away own all final =
    let s = final.0 in let r = final.1.0 in let at = final.1.1 in let f = r.each id v at in let o = f.opens (sym (f.own live) ∙ first) in let count = o.1 in
    let one_v = own_seats v live in
    let whole : sum_by seats_of s.views ≤ seats_of v = let n = r.seats in omega arith in
    -- each other seat was met
    let gone : (i : ℕ) (u : View) → get_elem? s.views i ≡ some u → i ≢ id → u ≡ spent_view = λ i u e ne.
    (r.each i u e).gone (no_seats u.spent (length u.met) (no_other seats_of s.views id i v u at e ne whole)) in
    let b : BookValue = record { history = r.history; limit = r.limit } in
    let home = r.at_home (λ i t u e inside. dite (ℕ_discrete i id)
    (λ is. let clash : Inside t ≡ Away = sym inside ∙ (ap phase_of (one_view s.views id i v u at e is) ∙ away) in absurd (cc))
    (λ ne. let clash : Inside t ≡ Away = sym inside ∙ ap phase_of (gone i u e ne) in absurd (cc))) in
    let grown : r.history ≡ v.opened ++ f.opened.0 = sym f.opened.1 in (
      b,
      final.4 0 (Some b) (ap (λ (h : List (Maybe (Option BookValue))). get_elem? h 0) home),
      record {
        limit = sym (f.limited live);
        registry = r.registry;
        bounded = r.bounded;
        added = f.opened.0;
        grown = grown;
        sessions = after_opening v.given r.history v.opened f.opened.0 grown (ap (made r.history) (sym first) ∙ (f.list live ∙ own)) (λ s lt. r.later s (omega arith));
        begins = λ k m e. (f.known k m e).front;
        met = f.known;
        each_met = λ session low high. let u = there s.views session (omega arith) in
            let ne : session ≢ id = let z = f.own live in omega arith in
            let old = r.joined session (u.1 ∙ ap some (gone session u.0 u.1 ne)) in dite (ℕ_discrete old.0 id)
            (λ e. let is = one_view s.views id old.0 v old.2 at old.4 e in (old.1, old.3, ap (λ (y : View). get_elem? y.met old.1) (sym is) ∙ old.5, old.6))
            (λ other. absurd (some-ne-none old.3 (sym (ap (λ (y : View). get_elem? y.met old.1) (sym (gone old.0 old.2 old.4 other)) ∙ old.5))));
        front = f.front;
        mark = f.mark;
      },
    )

-- the opening seat as it comes
pub opening_rests : (b : BookValue) (seats : ℕ) (me : Seated) (c : Counts) → 1 ≤ seats → seats ≤ 64 → me ≡ (opening_view b seats, [])
    → c ≡ record { session = 0; turns_left = max_turns; seats_left = seats - 1; given = 0; met = 0 } → Rests me c
opening_rests b seats me c some_seat few is are = subst (λ (x : Seated × Counts). Rests x.0 x.1) (λ i. (sym is i, sym are i)) (record {
  counted = record {
    live = refl;
    session = refl;
    turns = refl;
    left = refl;
    given = refl;
    met = refl;
    lone = λ _. refl;
    few = omega arith;
    session_small = omega arith;
    opening = λ _. refl;
  };
  carries = refl;
  away = refl;
})
