-- What a seat has once it has looked.
use Rattle.std.proofs.Common.{◌≡◌, ◌≢◌, ℕ, ◌+◌, ◌<◌, ◌≤◌, true, false, Some, None, List, [], ◌∷◌, length, sym, refl, ap, ◌∙◌, subst, append-nil}
use mathlib.Core.Option.{none}
use Rattle.atomic_table.specs.Table.{step, rest}
use Rattle.ticket_core.specs.declared.array_lock.ArrayPhase.TheVariants.{Waiting}
use Rattle.work_registry.specs.EntryValue.{EntryValue}
use Rattle.work_registry.specs.BookValue.{BookValue}
use Rattle.registry_desk.specs.declared.view.View.{View}
use Rattle.registry_desk.specs.declared.seat.Counts.{Counts}
use Rattle.registry_desk.specs.Views.{max_turns, open_flag, entered}
use Rattle.registry_desk.specs.Plays.{Seated, Finds, Looks, book_with}
use Rattle.registry_desk.specs.Standing.{DeskId, Standing, Counted, Waits, Stays}
use Rattle.registry_desk.specs.Turns.{Enters}
use Rattle.registry_desk.proofs.Shutting.{first_book}

-- the numbers of a seat are those of a view that has the same session, turns, entries and seats
pub counted_again : (v w : View) (c : Counts) → w ≡ record v { phase = w.phase; looks = w.looks; held = w.held } → Counted v c → Counted w c
counted_again v w c is k = record {
  live = ap (λ (z : View). z.spent) is ∙ k.live;
  session = ap (λ (z : View). z.session) is ∙ k.session;
  turns = subst (λ (z : View). z.turns + c.turns_left ≡ max_turns) (sym is) k.turns;
  left = ap (λ (z : View). z.left) is ∙ k.left;
  given = ap (λ (z : View). z.given) is ∙ k.given;
  met = ap (λ (z : View). length z.met) is ∙ k.met;
  lone = λ e. ap (λ (z : View). z.met) is ∙ k.lone (subst (λ (z : View). z.session ≢ 0) is e);
  few = subst (λ (z : View). z.given + z.left < 64) (sym is) k.few;
  session_small = subst (λ (z : View). z.session < 64) (sym is) k.session_small;
  opening = λ e. subst (λ (z : View). z.list ≡ z.opened) (sym is) (k.opening (subst (λ (z : View). z.session ≡ 0) is e));
}

-- a seat that waited with the ticket t is inside, with the book b as it found it
pub record Found (me after : Seated) (t : ℕ) (b : BookValue) : Type 0 where
  pub seat : after ≡ (entered me.0 t b.history, (0, None) ∷ [])
  pub book : b ≡ book_with me.0 b.history
  pub finds : Finds me.0 b.history

module _ (me me' after : Seated) (c : Counts) (i t found : ℕ) (b : BookValue) (w : Waits me c t) (told : Looks (step 0 i 0 0 none) me found me') where
  pub found_book : found ≡ open_flag → me'.1 ≡ (0, Some b) ∷ rest me'.1 → after ≡ (me'.0, (0, None) ∷ rest me'.1) → Found me after t b
  found_book hit carried put = let f = told.3 hit in let h : List EntryValue = f.0 in
      let both : Waiting told.0 ≡ Waiting t = sym told.1 ∙ w.waits in let ticket : told.0 ≡ t = cc in
      let left : me' ≡ (entered me.0 t h, (0, Some (book_with me.0 h)) ∷ me.1) = f.1 ∙ ap (λ (k : ℕ). (entered me.0 k h, (0, Some (book_with me.0 h)) ∷ me.1)) ticket in
      let same : book_with me.0 h ≡ b = ap (first_book b) (sym (ap (λ (m : Seated). m.1) left) ∙ carried) in
      let there : b.history ≡ h = ap (λ (x : BookValue). x.history) (sym same) in record {
        seat = put ∙ (ap (λ (m : Seated). (m.0, (0, None) ∷ rest m.1)) left ∙ (λ i. (entered me.0 t (sym there i), (0, None) ∷ w.carries i)));
        book = sym same ∙ ap (book_with me.0) (sym there);
        finds = subst (Finds me.0) (sym there) f.2;
      }

pub stays_inside : (me after : Seated) (c : Counts) (t : ℕ) (b : BookValue) → Waits me c t → Found me after t b → Stays after c t b true false
stays_inside me after c t b w f = subst (λ (m : Seated). Stays m c t b true false) (sym f.seat) (record {
  counted = counted_again me.0 (entered me.0 t b.history) c refl w.counted;
  carries = refl;
  inside = refl;
  found = record { registry = f.finds.registry; bounded = f.finds.bounded; front = f.finds.front; list = f.finds.list };
  registry = f.finds.registry;
  bounded = subst (λ (x : BookValue). length b.history ≤ x.limit) (sym f.book) f.finds.bounded;
  limit = ap (λ (x : BookValue). x.limit) f.book;
  adds = ([], record { whole = sym (append-nil b.history); mine = refl; others = λ s ne. refl });
  fresh = λ _. refl;
  opening = λ _. refl;
  filled = λ e. absurd (cc);
})

pub enters_with : (w : Standing) (d d' : DeskId) (me after : Seated) (c : Counts) (t : ℕ) (b : BookValue) → record { desk = d; view = me.0 } ≡ w → d' ≡ d → Waits me c t → Found me after t b
    → Enters w (record { desk = d'; view = after.0; book = b; unused = true; full = false })
enters_with w d d' me after c t b is same waits f = subst (λ (x : Standing). Enters x (record { desk = d'; view = after.0; book = b; unused = true; full = false })) is (record {
  ticket = t;
  waited = waits.waits;
  stay = record {
    desk = same;
    view = ap (λ (m : Seated). m.0) f.seat;
    book = f.book;
    finds = f.finds;
    unused = refl;
    full = refl;
  };
})
