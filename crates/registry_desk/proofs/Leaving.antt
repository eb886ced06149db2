-- A seat that is inside hands calls in, and leaves with the book that it then has.
use Rattle.std.proofs.Common.{◌≡◌, ◌≢◌, ℕ, ◌+◌, ◌%◌, ◌≤◌, Bool, true, false, cond, Option, Some, List, [], ◌∷◌, ◌++◌, length, drop, sym, refl, ap, ◌∙◌, subst, arith, append-nil, length-append}
use Rattle.std.specs.Prelude.{◌==◌}
use Rattle.std.proofs.lemmas.Bool.Decides.{nat_tests}
use Rattle.std.proofs.Math.Seq.{drop-length}
use mathlib.Core.Option.{none}
use Rattle.atomic_table.specs.Table.{step, rest, Allows}
use Rattle.ticket_core.specs.declared.array_lock.ArrayPhase.TheVariants.{Inside}
use Rattle.work_registry.specs.EntryValue.{EntryValue}
use Rattle.work_registry.specs.BookValue.{BookValue}
use Rattle.work_registry.specs.History.{IsHistory}
use Rattle.work_registry.specs.Replay.{made}
use Rattle.registry_desk.specs.declared.view.View.{View}
use Rattle.registry_desk.specs.declared.seat.Counts.{Counts}
use Rattle.registry_desk.specs.Views.{shut, passed}
use Rattle.registry_desk.specs.Rule.{Kept}
use Rattle.registry_desk.specs.Plays.{Seated, Shuts}
use Rattle.registry_desk.specs.Kinds.{Kind, shuts, Tells, Moves}
use Rattle.registry_desk.specs.Standing.{DeskId, Standing, Stay, Stays, Leaves, Rests}
use Rattle.registry_desk.proofs.Shutting.{Turned, marked_now, first_book, shut_allowed}

-- an entry of a session is one of its own
pub own_entry : (e : EntryValue) (s : ℕ) → e.session ≡ s → made (e ∷ []) s ≡ e ∷ []
own_entry e s own = let same : (e.session == s) ≡ true = grind (arith, nat_tests) in ap (λ (b : Bool). cond b (e ∷ []) []) same

-- and of no other
pub other_entry : (e : EntryValue) (s k : ℕ) → e.session ≡ s → k ≢ s → made (e ∷ []) k ≡ []
other_entry e s k own ne = let other : (e.session == k) ≡ false = grind (arith, nat_tests) in ap (λ (b : Bool). cond b (e ∷ []) []) other

module _ (me : Seated) (c : Counts) (t : ℕ) (b : BookValue) (unused full : Bool) (stays : Stays me c t b unused full) where
  -- a call was answered
  pub stays_answered : (b' : BookValue) (e : EntryValue) → unused ≡ true → me.0.session ≢ 0 → e.session ≡ c.session → b'.history ≡ b.history ++ e ∷ [] → b'.limit ≡ b.limit
      → IsHistory b'.history → length b'.history ≤ b'.limit → Stays me c t b' false full
  stays_answered b' e fresh not_opening own grown limit lawful fits = let own' : e.session ≡ me.0.session = own ∙ sym stays.counted.session in record {
    counted = stays.counted;
    carries = stays.carries;
    inside = stays.inside;
    found = stays.found;
    registry = lawful;
    bounded = fits;
    limit = limit ∙ stays.limit;
    adds = (
      e ∷ [],
      record {
        whole = grown ∙ ap (λ (h : List EntryValue). h ++ e ∷ []) (stays.fresh fresh);
        mine = own_entry e me.0.session own';
        others = λ s ne. other_entry e me.0.session s own' ne;
      },
    );
    fresh = λ z. absurd (cc);
    opening = λ z. absurd (not_opening z);
    filled = λ z. let f = stays.filled z in let g = ap length grown in let h = length-append b.history (e ∷ []) in absurd (omega arith);
  }

  -- a call was not taken
  pub stays_refused : (b' : BookValue) (limited full' : Bool) → b' ≡ b → (limited ≡ true → length b.history ≡ b.limit) → full' ≡ cond limited true full → Stays me c t b' unused full'
  stays_refused b' limited full' same at_limit is = subst (λ (x : BookValue × Bool). Stays me c t x.0 unused x.1) (λ i. (sym same i, sym is i)) (record {
    counted = stays.counted;
    carries = stays.carries;
    inside = stays.inside;
    found = stays.found;
    registry = stays.registry;
    bounded = stays.bounded;
    limit = stays.limit;
    adds = stays.adds;
    fresh = stays.fresh;
    opening = stays.opening;
    filled = marked_now limited full (length b.history ≡ b.limit) at_limit stays.filled;
  })

  -- the step that shuts the flag, once the book is put back
  module _ (me' : Seated) (put : me' ≡ (me.0, (0, Some b) ∷ rest me.1)) where
    pub put_is : me' ≡ (me.0, (0, Some b) ∷ [])
    put_is = put ∙ ap (λ (l : List (ℕ × Option BookValue)). (me.0, (0, Some b) ∷ rest l)) stays.carries

    turned : (id : ℕ) (f : Bool) → (f ≡ true → full ≡ true) → Turned id t me.0 b stays.adds.0 f
    turned id f only = let a = stays.adds.1 in record {
      live = stays.counted.live;
      inside = stays.inside;
      grown = a.whole;
      mine = a.mine;
      others = a.others;
      registry = stays.registry;
      bounded = stays.bounded;
      limit = stays.limit;
      filled = λ e. stays.filled (only e);
    }

    pub shut_step : (slots id : ℕ) (f : Bool) → slots ≡ 1 → (f ≡ true → full ≡ true)
        → Allows Kept slots id me' (t % 64 + 1) (λ _. 0) (λ _. Shuts f (step slots (t % 64 + 1) 0 0 none) me' 0)
    shut_step slots id f one only = subst (λ (m : Seated). Allows Kept slots id m (t % 64 + 1) (λ _. 0) (λ _. Shuts f (step slots (t % 64 + 1) 0 0 none) m 0)) (sym put_is)
        (shut_allowed id t me.0 b stays.adds.0 f slots one (turned id f only))

    pub shut_is : (word : ℕ) (n : Seated) (f : Bool) → f ≡ full → Shuts f (step 0 word 0 0 none) me' 0 n → n ≡ (shut me.0 t full b.history, [])
    shut_is word n f same told =
        let both : Inside told.0 ≡ Inside t = sym told.2 ∙ (ap (λ (m : Seated). m.0.phase) put_is ∙ stays.inside) in let ticket : told.0 ≡ t = cc in
        let carried : told.1 ≡ b = ap (first_book b) (sym told.3 ∙ ap (λ (m : Seated). m.1) put_is) in
        told.5 ∙ (λ i. (shut (put_is i).0 (ticket i) (same i) (carried i).history, []))

  -- its entries, if it is the opening seat's, stay the opening's
  still_opening : me.0.session ≡ 0 → me.0.list ++ drop (length me.0.held) b.history ≡ me.0.opened
  still_opening z = let same = stays.opening z in
      ap (λ (h : List EntryValue). me.0.list ++ drop (length me.0.held) h) same
      ∙ (ap (λ (l : List EntryValue). me.0.list ++ l) (drop-length me.0.held) ∙ (append-nil me.0.list ∙ stays.counted.opening z))

  pub leaves_after : (n : Seated) → n ≡ (shut me.0 t full b.history, []) → Leaves n c t
  leaves_after n is = subst (λ (m : Seated). Leaves m c t) (sym is) (let k = stays.counted in record {
    counted = record {
      live = k.live;
      session = k.session;
      turns = k.turns;
      left = k.left;
      given = k.given;
      met = k.met;
      lone = k.lone;
      few = k.few;
      session_small = k.session_small;
      opening = still_opening;
    };
    carries = refl;
    leaving = refl;
  })

-- so the seat that is left is as its contract says
pub leaves_with : (s : Stay) (d d' new : DeskId) (v : View) (t : ℕ) (b : BookValue) (unused full : Bool) (n : Seated)
    → record { desk = d; view = v; book = b; unused = unused; full = full } ≡ s → s.desk ≡ d' → new ≡ d → n ≡ (shut v t full b.history, [])
    → ◌≡◌ {A = Standing} (record { desk = new; view = n.0 }) (record { desk = d'; view = shut s.view t s.full s.book.history })
leaves_with s d d' new v t b unused full n is same kept left = let desk : new ≡ d' = kept ∙ (ap (λ (x : Stay). x.desk) is ∙ same) in
    let view : n.0 ≡ shut s.view t s.full s.book.history = ap (λ (m : Seated). m.0) left ∙ ap (λ (x : Stay). shut x.view t x.full x.book.history) is in
    λ i. record { desk = desk i; view = view i }

pub rests_after : (me after : Seated) (c : Counts) (t : ℕ) → Leaves me c t → after ≡ (passed me.0, me.1) → Rests after c
rests_after me after c t l is = subst (λ (m : Seated). Rests m c) (sym is) (let k = l.counted in record {
  counted = record {
    live = k.live;
    session = k.session;
    turns = k.turns;
    left = k.left;
    given = k.given;
    met = k.met;
    lone = k.lone;
    few = k.few;
    session_small = k.session_small;
    opening = k.opening;
  };
  carries = l.carries;
  away = refl;
})

-- the step of a kind that led from one seat to the other
pub moves : (kind : Kind) (word : ℕ) (me after : Seated) (number : ℕ) (v w : View) → me.0 ≡ v → after.0 ≡ w → Tells kind (step 0 word 0 0 none) me number after → Moves kind v w
moves kind word me after number v w is is' told = subst (λ (z : View × View). Moves kind z.0 z.1) (λ i. (is i, is' i))
    (record { step = step 0 word 0 0 none; number = number; carried = me.1; carries = after.1; told = told })

pub shut_moves : (full : Bool) (word : ℕ) (me after : Seated) (s : Stay) (w : View) → full ≡ s.full → me.0 ≡ s.view → after.0 ≡ w → Tells (shuts full) (step 0 word 0 0 none) me 0 after
    → Moves (shuts s.full) s.view w
shut_moves full word me after s w same is is' told = subst (λ (b : Bool). Moves (shuts b) s.view w) same (moves (shuts full) word me after 0 s.view w is is' told)
