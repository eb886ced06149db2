-- What one whole turn with one call does.
use Rattle.std.proofs.Common.{◌≡◌, ℕ, ◌+◌, ◌≤◌, Bool, true, false, cond, Result, Ok, Err, List, [], ◌∷◌, ◌++◌, length, drop, sym, refl, ap, ◌∙◌, subst, append-nil}
use Rattle.std.specs.Prelude.{◌==◌, IfOk, IfErr, ◌↔◌}
use Rattle.std.proofs.Math.Seq.{drop-append_seam, drop-length}
use Rattle.std.proofs.lemmas.List.Elements.{filter-append}
use Rattle.ticket_core.specs.declared.array_lock.ArrayPhase.TheVariants.{Inside}
use Rattle.cwr_call.specs.CallValue.{CallValue}
use Rattle.work_registry.specs.declared.reply.Reply.{Reply}
use Rattle.work_registry.specs.EntryValue.{EntryValue, entry_of}
use Rattle.work_registry.specs.Refusals.{RefusedValue, is_full, is_for_limit}
use Rattle.work_registry.specs.Rows.{rows_of}
use Rattle.work_registry.specs.Reply.{reply_to}
use Rattle.work_registry.specs.Numbers.{IsNumbered}
use Rattle.work_registry.specs.History.{IsHistory}
use Rattle.work_registry.specs.Replay.{made}
use Rattle.registry_desk.specs.declared.view.View.{View}
use Rattle.registry_desk.specs.Views.{drawn, after_turn}
use Rattle.registry_desk.specs.Plays.{Finds, book_with}
use Rattle.registry_desk.specs.Standing.{DeskId, Standing, Stay}
use Rattle.registry_desk.specs.Turns.{Enters, WaitsOn, ComesIn, answered, refused, handed_in, HandsIn}
use Rattle.registry_desk.proofs.Leaving.{own_entry}

-- the same seat, which may have looked meanwhile
pub record SeatWaits (w w' : Standing) : Type 0 where
  pub looks : List ℕ
  pub same : w' ≡ record { desk = w.desk; view = record w.view { looks = looks } }

pub waits_at_first : (w : Standing) → SeatWaits w w
waits_at_first w = record { looks = w.view.looks; same = refl }

pub waits_still : (w w' v : Standing) → SeatWaits w w' → WaitsOn w' v → SeatWaits w v
waits_still w w' v s n = record {
  looks = w'.view.looks ++ n.found ∷ [];
  same = n.same ∙ (λ i. record { desk = (s.same i).desk; view = record (s.same i).view { looks = w'.view.looks ++ n.found ∷ [] } });
}

pub comes_in : (r w w' : Standing) (s : Stay) (d : DeskId) (t : ℕ) → r.desk ≡ d → w ≡ record { desk = d; view = drawn r.view t } → SeatWaits w w' → Enters w' s → ComesIn r s
comes_in r w w' s d t here drew still e =
    let W : Standing = record { desk = d; view = record (drawn r.view t) { looks = still.looks } } in
    let is : w' ≡ W = still.same ∙ ap (λ (x : Standing). record { desk = x.desk; view = record x.view { looks = still.looks } }) drew in
    let f : Enters W s = subst (λ (x : Standing). Enters x s) is e in record {
      ticket = f.ticket;
      looks = still.looks ++ 1 ∷ [];
      stay = let l = f.stay in record {
        desk = l.desk ∙ sym here;
        view = l.view;
        book = l.book;
        finds = record { registry = l.finds.registry; bounded = l.finds.bounded; front = l.finds.front; list = l.finds.list };
        unused = l.unused;
        full = l.full;
      };
    }

-- the stay as it begins
abbrev begun : DeskId → View → ℕ → List ℕ → List EntryValue → Stay
begun desk v t looks h = record {
  desk = desk;
  view = record v { phase = Inside t; turns = v.turns + 1; looks = looks; held = h };
  book = book_with v h;
  unused = true;
  full = false;
}

begun_is : (r : Standing) (s : Stay) → (e : ComesIn r s) → s ≡ begun r.desk r.view e.ticket e.looks s.book.history
begun_is r s e = let l = e.stay in λ i. record { desk = l.desk i; view = l.view i; book = l.book i; unused = l.unused i; full = l.full i }

abbrev left : Stay → View
left s = after_turn s.view s.full s.book.history

-- a turn that is marked by its call alone
mark_is : (b m : Bool) → cond (cond b true false) true m ≡ cond b true m
mark_is true m = refl
mark_is false m = refl

-- What the call of a stay did, which began with this one
pub record Applied (s : Stay) (call : CallValue) (result : Result Reply RefusedValue) (s' : Stay) : Type 0 where
  pub reply : IfOk result (λ r. r ≡ reply_to (rows_of s.book.history) call)
  pub numbered : IfOk result IsNumbered
  pub entry : IfOk result (λ r. s' ≡ answered s call r)
  pub given_back : IfErr result (λ e. e.call ≡ call)
  pub unchanged : IfErr result (λ e. s' ≡ refused s e.why)
  pub full : (length s.book.history ≡ s.book.limit) ↔ (is_full result ≡ true)
  pub registry : IsHistory s'.book.history
  pub bounded : length s'.book.history ≤ s'.book.limit

-- from the stay as it began
module _ (desk : DeskId) (v : View) (t : ℕ) (looks : List ℕ) (h : List EntryValue) (call : CallValue) (s' : Stay) (finds : Finds v h) where
  abbrev S : Stay
  S = begun desk v t looks h

  handed_ok : (reply : Reply) → Applied S call (Ok reply) s' → HandsIn v call (Ok reply) (left s')
  handed_ok reply a =
      let e : EntryValue = entry_of v.session call reply in
      let tail : drop (length h) (h ++ e ∷ []) ≡ e ∷ [] = drop-append_seam h (e ∷ []) in
      let is : left s' ≡ handed_in v h call (Ok reply) = ap left a.entry ∙ ap (λ (l : List EntryValue). record (handed_in v h call (Ok reply)) { list = v.list ++ l }) tail in
      let grown : s'.book.history ≡ h ++ e ∷ [] = ap (λ (x : Stay). x.book.history) a.entry in record {
        found = h;
        finds = finds;
        view = is;
        reply = a.reply;
        numbered = a.numbered;
        given_back = a.given_back;
        full = a.full;
        registry = a.registry;
        bounded = subst (λ (n : ℕ). length s'.book.history ≤ n) (ap (λ (x : Stay). x.book.limit) a.entry ∙ sym (ap (λ (x : Stay). x.view.limit) a.entry)) a.bounded;
        own = subst (λ (w : View). made w.front w.session ≡ w.list) (sym is)
            (filter-append (λ x. x.session == v.session) h (e ∷ []) ∙ (λ i. finds.list i ++ own_entry e v.session refl i));
      }

  handed_err : (refusal : RefusedValue) → Applied S call (Err refusal) s' → HandsIn v call (Err refusal) (left s')
  handed_err refusal a =
      let whole : h ≡ h ++ [] = sym (append-nil h) in let b : Bool = is_for_limit refusal.why in
      let is : left s' ≡ handed_in v h call (Err refusal) = ap left a.unchanged
      ∙ (λ i. record (handed_in v h call (Err refusal)) { list = v.list ++ drop-length h i; front = whole i; marked = mark_is b v.marked i }) in record {
        found = h;
        finds = finds;
        view = is;
        reply = a.reply;
        numbered = a.numbered;
        given_back = a.given_back;
        full = a.full;
        registry = a.registry;
        bounded = subst (λ (n : ℕ). length s'.book.history ≤ n) (ap (λ (x : Stay). x.book.limit) a.unchanged ∙ sym (ap (λ (x : Stay). x.view.limit) a.unchanged)) a.bounded;
        own = subst (λ (w : View). made w.front w.session ≡ w.list) (sym is)
            (ap (λ (l : List EntryValue). made l v.session) (append-nil h) ∙ (finds.list ∙ sym (append-nil v.list)));
      }

  handed : (result : Result Reply RefusedValue) → Applied S call result s' → HandsIn v call result (left s')
  handed (Ok reply) a = handed_ok reply a
  handed (Err refusal) a = handed_err refusal a

pub turn : (r : Standing) (s s' : Stay) (call : CallValue) (result : Result Reply RefusedValue) → ComesIn r s → Applied s call result s' → HandsIn r.view call result (left s')
turn r s s' call result e a = handed r.desk r.view e.ticket e.looks s.book.history call s' e.stay.finds result
    (subst (λ (x : Stay). Applied x call result s') (begun_is r s e) a)

-- a stay's calls leave it at its desk
pub same_desk : (s s' : Stay) (call : CallValue) (result : Result Reply RefusedValue) → Applied s call result s' → s'.desk ≡ s.desk
same_desk s s' call (Ok reply) a = ap (λ (x : Stay). x.desk) a.entry
same_desk s s' call (Err refusal) a = ap (λ (x : Stay). x.desk) a.unchanged
