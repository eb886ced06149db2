-- A seat that is inside puts the book back and shuts its flag.
use Rattle.std.proofs.Common.{◌≡◌, ℕ, ◌+◌, ◌%◌, ◌≤◌, ◌≢◌, Bool, true, false, cond, Option, Some, None, List, [], ◌∷◌, ◌++◌, length, drop, get_or, set, sym, refl, ap, ◌∙◌, subst, arith, length-append, length-set, get_or-set_other}
use Rattle.std.specs.Prelude.{◌==◌}
use Rattle.std.proofs.lemmas.List.Elements.{filter-append}
use Rattle.std.proofs.Math.Seq.{drop-append_seam}
use mathlib.Core.Option.{some, none}
use mathlib.Core.List.{IsPrefix}
use lib.ListN.{get_elem?}
use Rattle.atomic_table.specs.Table.{step, gives, Allows}
use Rattle.ticket_core.specs.declared.array_lock.ArrayPhase.TheVariants.{Inside}
use Rattle.ticket_core.specs.declared.array_lock.ArrayEvent.TheVariants.{Shut}
use Rattle.ticket_core.specs.declared.array_lock.ArrayOutcome.TheVariants.{Shuts as ShutsFlag}
use Rattle.work_registry.specs.EntryValue.{EntryValue}
use Rattle.work_registry.specs.BookValue.{BookValue}
use Rattle.work_registry.specs.History.{IsHistory}
use Rattle.work_registry.specs.Replay.{made}
use Rattle.registry_desk.specs.declared.view.View.{View}
use Rattle.registry_desk.specs.declared.view.Met.{Met}
use Rattle.registry_desk.specs.Views.{turns_of, shut}
use Rattle.registry_desk.specs.Rule.{shown_lock, MetFits, ViewFits, Kept}
use Rattle.registry_desk.specs.Plays.{Shuts}
use Rattle.registry_desk.proofs.Lists.{within, prefix_more, prefix_self, made_more}
use Rattle.registry_desk.proofs.Lock.{lawful_after, shut_event, alone}
use Rattle.registry_desk.proofs.Steps.{not_spent, moved}

-- the one slot after a book is put into it
one_home : {A : Type 0} (l : List A) (x : A) → length l ≡ 1 → set l 0 x ≡ x ∷ []
one_home [] x e = absurd (omega arith)
one_home (y ∷ []) x e = refl
one_home (y ∷ z ∷ l) x e = absurd (omega arith)

-- what was at its limit stays there
full_still : (history added : List EntryValue) (limit : ℕ) → length history ≡ limit → length (history ++ added) ≤ limit → length (history ++ added) ≡ limit
full_still history added limit e b = omega (arith, length-append history added)

-- what is known of a seat that was met stays so while others add entries
grown_met : (history added : List EntryValue) (limit : ℕ) (m : Met) → made added m.session ≡ [] → length (history ++ added) ≤ limit
    → MetFits history limit m → MetFits (history ++ added) limit m
grown_met history added limit m lacks b f = record {
  list = made_more history added m.session lacks ∙ f.list;
  front = prefix_more m.front history added f.front;
  mark = λ e. full_still history added limit (f.mark e) b;
}

-- and so does what another seat knows
grown_view : (n i : ℕ) (history added : List EntryValue) (limit : ℕ) (v : View)
    → (v.spent ≡ false → made added v.session ≡ [])
    → ((t : ℕ) → v.phase ≡ Inside t → ⊥)
    → ((k : ℕ) (m : Met) → get_elem? v.met k ≡ some m → made added m.session ≡ [])
    → length (history ++ added) ≤ limit → ViewFits n history limit i v → ViewFits n (history ++ added) limit i v
grown_view n i history added limit v lacks out mets b f = record {
  own = f.own;
  gone = f.gone;
  turns = f.turns;
  met_turns = f.met_turns;
  opened = prefix_more v.opened history added f.opened;
  front = prefix_more v.front history added f.front;
  list = λ live. made_more history added v.session (lacks live) ∙ f.list live;
  limited = f.limited;
  mark = λ e. full_still history added limit (f.mark e) b;
  opens = f.opens;
  holding = λ t e. absurd (out t e);
  known = λ k m e. grown_met history added limit m (mets k m e) b (f.known k m e);
}

-- a mark that stands after a turn stood before, or is the turn's
pub marked_now : (full marked : Bool) (X : Type 0) → (full ≡ true → X) → (marked ≡ true → X) → cond full true marked ≡ true → X
marked_now true marked X a b e = a refl
marked_now false marked X a b e = b e

abbrev pub book_or : BookValue → Option BookValue → BookValue
book_or d (Some b) = b
book_or d None = d

abbrev pub first_book : BookValue → List (ℕ × Option BookValue) → BookValue
first_book d [] = d
first_book d (p ∷ ps) = book_or d p.1

-- The turn of a seat with the view v, ticket t, that puts back the book b with the entries `added`, all its own
module _ (id t : ℕ) (v : View) (b : BookValue) (added : List EntryValue) (full : Bool) where
  pub record Turned : Type 0 where
    pub live : v.spent ≡ false
    pub inside : v.phase ≡ Inside t
    pub grown : b.history ≡ v.held ++ added
    pub mine : made added v.session ≡ added
    pub others : (session : ℕ) → session ≢ v.session → made added session ≡ []
    pub registry : IsHistory b.history
    pub bounded : length b.history ≤ b.limit
    pub limit : b.limit ≡ v.limit
    pub filled : full ≡ true → length b.history ≡ b.limit

  pub shut_allowed : (slots : ℕ) → slots ≡ 1 → Turned
      → Allows Kept slots id (v, (0, Some b) ∷ []) (t % 64 + 1) (λ _. 0) (λ _. Shuts full (step slots (t % 64 + 1) 0 0 none) (v, (0, Some b) ∷ []) 0)
  shut_allowed slots one turn s r size at small =
      let k : ℕ = t % 64 + 1 in let w : View = shut v t full b.history in let f = r.each id v at in
      let words : List ℕ = set s.words k 0 in let history : List EntryValue = r.history ++ added in
      let first : get_or words 0 0 ≡ get_or s.words 0 0 = get_or-set_other s.words k 0 0 0 (λ e. omega arith) in
      let grown : b.history ≡ history = turn.grown ∙ ap (λ (h : List EntryValue). h ++ added) (f.holding t turn.inside) in
      let lim : b.limit ≡ r.limit = turn.limit ∙ f.limited turn.live in
      let bounded : length history ≤ r.limit = let e = ap length grown in let o = turn.bounded in omega arith in
      let tail : drop (length v.held) b.history ≡ added = ap (drop (length v.held)) turn.grown ∙ drop-append_seam v.held added in
      -- no seat that was met has this session
      let not_met : (j k : ℕ) (u : View) (m : Met) → get_elem? s.views j ≡ some u → get_elem? u.met k ≡ some m → made added m.session ≡ [] =
      λ j k u m p q. turn.others m.session (λ e. not_spent s.views id m.session v at turn.live (r.apart j k u m p q) (e ∙ f.own turn.live)) in (
        w,
        gives,
        tt,
        moved s r id v w at history words (set s.homes 0 (some (Some b))) (length-set s.words k 0 ∙ r.words)
            (lawful_after (shown_lock s.words s.views) (shown_lock words (set s.views id w)) (Shut id) ShutsFlag (shut_event s.words s.views id v at t full b.history turn.inside) r.lock)
            (ap (λ (k : ℕ). turns_of v + k) (sym first)) turn.live turn.live refl
            (record {
              own = f.own;
              gone = λ e. absurd (let live = turn.live in let clash : true ≡ false = sym e ∙ live in cc);
              turns = f.turns;
              met_turns = f.met_turns;
              opened = prefix_more v.opened r.history added f.opened;
              front = subst (IsPrefix b.history) grown (prefix_self b.history);
              list = λ _. filter-append (λ x. x.session == v.session) r.history added ∙ ((λ i. f.list turn.live i ++ turn.mine i) ∙ ap (λ (l : List EntryValue). v.list ++ l) (sym tail));
              limited = f.limited;
              mark = marked_now full v.marked (length history ≡ r.limit) (λ e. ap length (sym grown) ∙ (turn.filled e ∙ lim)) (λ e. full_still r.history added r.limit (f.mark e) bounded);
              opens = f.opens;
              holding = λ k e. absurd (cc);
              known = λ k m e. grown_met r.history added r.limit m (not_met id k v m at e) bounded (f.known k m e);
            })
            (λ j u ne e. let g = r.each j u e in grown_view (length s.views) j r.history added r.limit u
            (λ alive. turn.others u.session (λ same. ne (sym (g.own alive) ∙ (same ∙ f.own turn.live))))
            (λ k within_too. alone s.words s.views id v at t r.lock turn.inside j k u ne e within_too)
            (λ k m q. not_met j k u m e q) bounded g)
            (subst IsHistory grown turn.registry) bounded
            (λ session l. made_more r.history added session (turn.others session (λ e. let o = f.own turn.live in let h = within s.views id v at in absurd (omega arith))) ∙ r.later session l)
            (λ _. one_home s.homes (some (Some b)) (size ∙ one) ∙ (λ i. some (Some (record { history = grown i; limit = lim i })) ∷ [])),
        (t, b, turn.inside, refl, refl, refl),
      )
