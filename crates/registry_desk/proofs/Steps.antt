-- Each step of a seat keeps the rule.
use Rattle.std.proofs.Common.{◌≡◌, ℕ, ◌+◌, ◌*◌, ◌%◌, ◌^◌, ◌<◌, ◌≤◌, ◌≢◌, Bool, true, false, cond, Option, Some, List, [], ◌∷◌, length, get_or, set, sym, refl, ap, ◌∙◌, subst, ⊎_elim, arith, length-set, get_or-set_other, get_or-set_same}
use Rattle.std.specs.List.{sum_by}
use Rattle.std.proofs.lemmas.Bool.Decides.{nat_tests}
use mathlib.Core.Logic.{dite}
use mathlib.Core.List.{IsPrefix}
use mathlib.Core.Option.{Option as Maybe, some, none, some-injective}
use native.Mathlib.Decide.{ℕ_discrete}
use lib.ListN.{get_elem?}
use Rattle.atomic_table.specs.Table.{step, keeps, takes, Allows}
use Rattle.atomic_table.proofs.Lists.{at_set, set_else, set_here, set_again}
use Rattle.ticket_core.specs.declared.array_lock.ArrayPhase.TheVariants.{Away, Waiting, Inside, Leaving}
use Rattle.ticket_core.specs.declared.array_lock.ArrayEvent.TheVariants.{Draw, Look, Pass}
use Rattle.ticket_core.specs.declared.array_lock.ArrayOutcome.TheVariants.{Drew, Waits, Enters, Passes}
use Rattle.ticket_core.specs.ArrayLock.{IsLawfulArrayState}
use Rattle.work_registry.specs.EntryValue.{EntryValue}
use Rattle.work_registry.specs.BookValue.{BookValue}
use Rattle.work_registry.specs.History.{IsHistory}
use Rattle.work_registry.specs.Replay.{made}
use Rattle.registry_desk.specs.declared.view.View.{View}
use Rattle.registry_desk.specs.declared.view.Met.{Met}
use Rattle.registry_desk.specs.Views.{phase_of, seats_of, turns_of, spent_view, max_turns, drawn, looked, entered, passed}
use Rattle.registry_desk.specs.Rule.{DeskState, is_open, shown_lock, ViewFits, NobodyInside, Kept}
use Rattle.registry_desk.specs.Plays.{Seated, book_with, Draws, Looks, Passes as PassesOn}
use Rattle.registry_desk.proofs.Lists.{within, read, there, sum_set, sum_bound}
use Rattle.registry_desk.proofs.Lock.{lawful_after, draw_event, enter_event, wait_event, pass_event, nobody_in}

-- two views at one place are one
pub one_view : (views : List View) (i j : ℕ) (v x : View) → get_elem? views i ≡ some v → get_elem? views j ≡ some x → j ≡ i → x ≡ v
one_view views i j v x at there same = some-injective x v (sym there ∙ (ap (λ (k : ℕ). get_elem? views k) same ∙ at))

-- a seat that is there was not met
pub not_spent : (views : List View) (i j : ℕ) (v : View) → get_elem? views i ≡ some v → v.spent ≡ false → get_elem? views j ≡ some spent_view → j ≡ i → ⊥
not_spent views i j v at live gone same = let clash : true ≡ false = ap (λ (z : View). z.spent) (one_view views i j v spent_view at gone same) ∙ live in absurd (cc)

-- one seat's turns and those of the seats that it met
pub own_seats : (v : View) → v.spent ≡ false → seats_of v ≡ 1 + length v.met
own_seats v live = ap (λ (b : Bool). cond b 0 (1 + length v.met)) live

-- a view counts no more turns than its seats can have
bounded_turns : (n i : ℕ) (history : List EntryValue) (limit : ℕ) (v : View) → ViewFits n history limit i v → turns_of v ≤ seats_of v * max_turns
bounded_turns n i history limit v f = by v.spent refl where
  by : (b : Bool) → v.spent ≡ b → turns_of v ≤ seats_of v * max_turns
  by true gone = subst (λ (z : View). turns_of z ≤ seats_of z * max_turns) (sym (f.gone gone)) (omega arith)
  by false live = let a = f.turns in let b = f.met_turns in let e = ap (λ (k : ℕ). k * max_turns) (own_seats v live) in omega arith

-- the numbers of tickets stay small
pub small_tickets : (s : DeskState) → Kept s → get_or s.words 0 0 < 2 ^ 38
small_tickets s r = let b = sum_bound turns_of seats_of max_turns s.views (λ i v at. bounded_turns (length s.views) i r.history r.limit v (r.each i v at)) in let t = r.total in let n = r.seats in
    let f = there s.views 0 r.some_seat in let o = (r.each 0 f.0 f.1).opens refl in let e = o.1 in let l = o.2 in
    let m : sum_by seats_of s.views * max_turns ≡ length s.views * max_turns = ap (λ (k : ℕ). k * max_turns) n in omega arith

-- One seat's view changes to one of as many seats, and the history may grow by what that seat made
module _ (s : DeskState) (r : Kept s) (id : ℕ) (v w : View) (at : get_elem? s.views id ≡ some v) where
  here : id < length s.views
  here = within s.views id v at

  abbrev views' : List View
  views' = set s.views id w

  same_length : length views' ≡ length s.views
  same_length = length-set s.views id w

  new_view : get_elem? views' id ≡ some w
  new_view = set_here s.views id w here

  -- what is said of another seat is said of it as it was, and what is said of this one of its new view
  which : (P : View → Type 0) (j : ℕ) (u : View) → get_elem? views' j ≡ some u → (j ≡ id → P w) → (j ≢ id → get_elem? s.views j ≡ some u → P u) → P u
  which P j u e mine others = ⊎_elim
      (λ (t : (j ≡ id) × (w ≡ u)). subst P t.1 (mine t.0))
      (λ (t : (j ≢ id) × (get_elem? s.views j ≡ some u)). others t.0 t.1)
      (at_set s.views id j w u e)

  still_spent : v.spent ≡ false → (j : ℕ) → get_elem? s.views j ≡ some spent_view → get_elem? views' j ≡ some spent_view
  still_spent live j gone = set_else s.views id j w (λ e. not_spent s.views id j v at live gone e) ∙ gone

  was_spent : w.spent ≡ false → (j : ℕ) → get_elem? views' j ≡ some spent_view → get_elem? s.views j ≡ some spent_view
  was_spent live j gone = sym (set_else s.views id j w (λ e. not_spent views' id j w new_view live gone e)) ∙ gone

  pub moved : (history : List EntryValue) (words : List ℕ) (homes : List (Maybe (Option BookValue)))
      → length words ≡ 65
      → IsLawfulArrayState (shown_lock words views')
      → turns_of w + get_or s.words 0 0 ≡ turns_of v + get_or words 0 0
      → v.spent ≡ false → w.spent ≡ false → w.met ≡ v.met
      → ViewFits (length s.views) history r.limit id w
      → ((j : ℕ) (u : View) → j ≢ id → get_elem? s.views j ≡ some u → ViewFits (length s.views) history r.limit j u)
      → IsHistory history → length history ≤ r.limit
      → ((session : ℕ) → length s.views ≤ session → made history session ≡ [])
      → (NobodyInside views' → homes ≡ some (Some (record { history = history; limit = r.limit })) ∷ [])
      → Kept (record { words = words; homes = homes; views = views' })
  moved history words homes wide law turn live live' same mine others registry bounded later home = let size = same_length in record {
    history = history;
    limit = r.limit;
    words = wide;
    lock = law;
    total = let a = sum_set turns_of s.views id v w at in let t = r.total in omega arith;
    some_seat = let n = r.some_seat in omega arith;
    seats = let a = sum_set seats_of s.views id v w at in let t = r.seats in
        let e : seats_of w ≡ seats_of v = own_seats w live' ∙ (ap (λ (l : List Met). 1 + length l) same ∙ sym (own_seats v live)) in omega arith;
    each = λ j u e. subst (λ (n : ℕ). ViewFits n history r.limit j u) (sym size)
        (which (ViewFits (length s.views) history r.limit j) j u e (λ i. subst (λ (k : ℕ). ViewFits (length s.views) history r.limit k w) (sym i) mine) (λ ne old. others j u ne old));
    apart = λ i k x m a b.
        let knows : View → Type 0 = λ (y : View). get_elem? y.met k ≡ some m → get_elem? views' m.session ≡ some spent_view in
        which knows i x a
        (λ e q. still_spent live m.session (r.apart id k v m at (ap (λ (l : List Met). get_elem? l k) (sym same) ∙ q)))
        (λ ne old q. still_spent live m.session (r.apart i k x m old q)) b;
    joined = λ j gone. let old = r.joined j (was_spent live' j gone) in dite (ℕ_discrete old.0 id)
        (λ e. let is = one_view s.views id old.0 v old.2 at old.4 e in
        (id, old.1, w, old.3, new_view, ap (λ (l : List Met). get_elem? l old.1) (same ∙ sym (ap (λ (z : View). z.met) is)) ∙ old.5, old.6))
        (λ ne. (old.0, old.1, old.2, old.3, set_else s.views id old.0 w ne ∙ old.4, old.5, old.6));
    registry = registry;
    bounded = bounded;
    later = λ session l. later session (omega arith);
    at_home = home;
  }

  -- where it is not inside before, and nobody is inside after, nobody was inside
  pub nobody_was : ((t : ℕ) → v.phase ≡ Inside t → ⊥) → NobodyInside views' → NobodyInside s.views
  nobody_was out nobody i t x there inside = dite (ℕ_discrete i id)
      (λ is. out t (ap phase_of (sym (one_view s.views id i v x at there is)) ∙ inside))
      (λ other. nobody i t x (set_else s.views id i w other ∙ there) inside)

-- a view of the same session, turns and entries, in another phase, fits where the old one does
pub rephased : (n i : ℕ) (history : List EntryValue) (limit : ℕ) (v w : View) → v.spent ≡ false → w ≡ record v { phase = w.phase; turns = w.turns; looks = w.looks; held = w.held }
    → w.turns ≤ max_turns → ((t : ℕ) → w.phase ≡ Inside t → w.held ≡ history)
    → ViewFits n history limit i v → ViewFits n history limit i w
rephased n i history limit v w live is room holding f =
    let live' : w.spent ≡ false = ap (λ (z : View). z.spent) is ∙ live in record {
      own = λ _. ap (λ (z : View). z.session) is ∙ f.own live;
      gone = λ e. absurd (let clash : true ≡ false = sym e ∙ live' in cc);
      turns = room;
      met_turns = subst (λ (z : View). z.met_turns ≤ length z.met * max_turns) (sym is) f.met_turns;
      opened = subst (λ (z : View). IsPrefix z.opened history) (sym is) f.opened;
      front = subst (λ (z : View). IsPrefix z.front history) (sym is) f.front;
      list = λ _. subst (λ (z : View). made history z.session ≡ z.list) (sym is) (f.list live);
      limited = λ _. ap (λ (z : View). z.limit) is ∙ f.limited live;
      mark = λ e. f.mark (sym (ap (λ (z : View). z.marked) is) ∙ e);
      opens = λ z. let o = f.opens z in (live', o.1 ∙ ap (λ (x : View). x.given + 1) (sym is), subst (λ (x : View). x.given + x.left < 64) (sym is) o.2);
      holding = holding;
      known = λ k m e. f.known k m (ap (λ (z : View). get_elem? z.met k) (sym is) ∙ e);
    }

-- a load leaves the words
pub same_words : (words : List ℕ) (i : ℕ) → i < length words → set words i (get_or words i 0) ≡ words
same_words words i h = set_again words i (get_or words i 0) (let t = there words i h in t.1 ∙ ap some (sym (read words i t.0 0 t.1)))

-- the steps of a seat that another has not met
module _ (slots id : ℕ) (me : Seated) (live : me.0.spent ≡ false) where
  abbrev v : View
  v = me.0

  -- a seat draws a ticket
  pub draw_allowed : v.phase ≡ Away → v.turns < max_turns
      → Allows Kept slots id me 0 (λ n. (n + 1) % 2 ^ 64) (Draws (step slots 0 1 0 none) me)
  draw_allowed away room s r size at small =
      let n : ℕ = get_or s.words 0 0 in let w : View = drawn v n in let below = small_tickets s r in let wide = r.words in
      let words : List ℕ = set s.words 0 ((n + 1) % 2 ^ 64) in
      let up : get_or words 0 0 ≡ n + 1 = get_or-set_same s.words 0 ((n + 1) % 2 ^ 64) 0 (omega arith) ∙ (let e : (n + 1) % 2 ^ 64 ≡ n + 1 = omega arith in e) in (
        w,
        keeps,
        tt,
        moved s r id v w at r.history words s.homes (length-set s.words 0 ((n + 1) % 2 ^ 64) ∙ wide)
            (lawful_after (shown_lock s.words s.views) (shown_lock words (set s.views id w)) (Draw id) (Drew n) (draw_event s.words s.views id v at (omega arith) (omega arith) away) r.lock)
            (omega arith) live live refl
            (rephased (length s.views) id r.history r.limit v w live refl (omega arith) (λ t e. absurd (cc)) (r.each id v at))
            (λ j u ne e. r.each j u e) r.registry r.bounded r.later
            (λ nobody. r.at_home (nobody_was s r id v w at (λ t e. let clash : Inside t ≡ Away = sym e ∙ away in absurd (cc)) nobody)),
        (refl, away, refl),
      )

  -- a seat that is leaving opens the next flag
  pub pass_allowed : (t : ℕ) → v.phase ≡ Leaving t
      → Allows Kept slots id me ((t + 1) % 64 + 1) (λ _. 1) (λ _. PassesOn (step slots ((t + 1) % 64 + 1) 1 0 none) me 1)
  pass_allowed t leaving s r size at small =
      let k : ℕ = (t + 1) % 64 + 1 in let w : View = passed v in let words : List ℕ = set s.words k 1 in
      let first : get_or words 0 0 ≡ get_or s.words 0 0 = get_or-set_other s.words k 0 1 0 (λ e. omega arith) in (
        w,
        keeps,
        tt,
        moved s r id v w at r.history words s.homes (length-set s.words k 1 ∙ r.words)
            (lawful_after (shown_lock s.words s.views) (shown_lock words (set s.views id w)) (Pass id) Passes (pass_event s.words s.views id v at t leaving) r.lock)
            (omega arith) live live refl
            (rephased (length s.views) id r.history r.limit v w live refl (r.each id v at).turns (λ j e. absurd (cc)) (r.each id v at))
            (λ j u ne e. r.each j u e) r.registry r.bounded r.later
            (λ nobody. r.at_home (nobody_was s r id v w at (λ j e. let clash : Inside j ≡ Leaving t = sym e ∙ leaving in absurd (cc)) nobody)),
        (t, leaving, refl, refl),
      )

  -- a seat reads its flag
  pub look_allowed : (t : ℕ) → v.phase ≡ Waiting t
      → Allows Kept slots id me (t % 64 + 1) (λ n. n) (Looks (step slots (t % 64 + 1) 0 0 none) me)
  look_allowed t waits s r size at small =
      let k : ℕ = t % 64 + 1 in let found : ℕ = get_or s.words k 0 in let wide = r.words in
      let words : List ℕ = set s.words k found in let still : words ≡ s.words = same_words s.words k (omega arith) in
      let L = shown_lock s.words s.views in
      let shown : (w : View) → shown_lock s.words (set s.views id w) ≡ shown_lock words (set s.views id w) = λ w. ap (λ (l : List ℕ). shown_lock l (set s.views id w)) (sym still) in
      let turn : (w : View) → w.turns ≡ v.turns → w.met_turns ≡ v.met_turns → turns_of w + get_or s.words 0 0 ≡ turns_of v + get_or words 0 0 =
      λ w a b. let e = ap (λ (l : List ℕ). get_or l 0 0) still in omega arith in
      let fits = r.each id v at in
      dite (ℕ_discrete found 1)
      (λ hit. let w : View = entered v t r.history in let on : is_open found ≡ true = grind (arith, nat_tests) in
      let home = r.at_home (nobody_in s.words s.views id v at t r.lock waits on) in
      let book : (record { history = r.history; limit = r.limit }) ≡ book_with v r.history = let e = fits.limited live in λ i. record { history = r.history; limit = sym e i } in (
        w,
        takes 0 (Some (book_with v r.history)),
        ap (λ (h : List (Maybe (Option BookValue))). get_elem? h 0) home ∙ ap (λ (b : BookValue). some (some (Some b))) book,
        moved s r id v w at r.history words (set s.homes 0 none) (length-set s.words k found ∙ wide)
            (subst IsLawfulArrayState (shown w) (lawful_after L (shown_lock s.words (set s.views id w)) (Look id) (Enters t) (enter_event s.words s.views id v at t r.history waits on) r.lock))
            (turn w refl refl) live live refl
            (rephased (length s.views) id r.history r.limit v w live refl fits.turns (λ j e. refl) fits)
            (λ j u ne e. r.each j u e) r.registry r.bounded r.later
            (λ nobody. absurd (nobody id t w (set_here s.views id w (within s.views id v at)) refl)),
        (
          t,
          waits,
          refl,
          (λ _. (
            r.history,
            refl,
            record {
              registry = r.registry;
              bounded = let l = fits.limited live in let b = r.bounded in omega arith;
              front = fits.front;
              list = fits.list live;
            },
          )),
          (λ lost. absurd (lost hit)),
        ),
      ))
      (λ miss. let w : View = looked v found in let off : is_open found ≡ false = grind (arith, nat_tests) in (
        w,
        keeps,
        tt,
        moved s r id v w at r.history words s.homes (length-set s.words k found ∙ wide)
            (subst IsLawfulArrayState (shown w) (lawful_after L (shown_lock s.words (set s.views id w)) (Look id) Waits (wait_event s.words s.views id v at t found waits off) r.lock))
            (turn w refl refl) live live refl
            (rephased (length s.views) id r.history r.limit v w live refl fits.turns (λ j e. let clash : Waiting t ≡ Inside j = sym waits ∙ e in absurd (cc)) fits)
            (λ j u ne e. r.each j u e) r.registry r.bounded r.later
            (λ nobody. r.at_home (nobody_was s r id v w at (λ j e. let clash : Waiting t ≡ Inside j = sym waits ∙ e in absurd (cc)) nobody)),
        (t, waits, refl, (λ hit. absurd (miss hit)), (λ _. refl)),
      ))
