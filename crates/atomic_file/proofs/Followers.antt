-- Followers that are put in place one after another.
use Rattle.std.proofs.Common.{◌≡◌, ◌⊎◌, ℕ, zero, suc, ◌+◌, ◌<◌, ◌≤◌, Bool, true, false, List, [], ◌∷◌, set, get_or, length, refl, sym, ◌∙◌, ap, inl, inr, arith}
use Rattle.std.specs.Prelude.{Option, Some, None, Result, Ok, Err, OnOk, OnErr, IfSome, IsSomeAnd}
use Rattle.std.proofs.lemmas.List.{get_or-set_same, length-set}
use borrow.Author.Count.{below_more}
use Rattle.atomic_file.specs.Names.{Names, State, HasEach, waiting_text, with_follower, placing_follower, refusing_follower, IsRefused, IsSynced}
use Rattle.atomic_file.specs.Looking.{Becomes, BecomesBy, Renames, GoesOn}
use Rattle.atomic_file.specs.Keeping.{follower, MayFollow, AreFollowing, AreSynced, AreSettled, AreThere, MayRefuse, SinceThen, Leads}

-- the followers below n were put in place, or refused
pub record SoFar (n : ℕ) (s t : State) : Type 0 where
  pub follows : AreFollowing n s t
  pub names : length t.names.followers ≡ length s.waiting
  pub answers : length t.refused ≡ length s.waiting
  pub synced : AreSynced t

-- an element is as it was, or it is the one that was set
abbrev pub SetOrSame : {A : Type 0} → List A → ℕ → A → ℕ → A → Type 0
SetOrSame xs i a k d = (get_or (set xs i a) k d ≡ get_or xs k d) ⊎ ((k ≡ i) × (get_or (set xs i a) k d ≡ a))

SetOrSame-next : {A : Type 0} (x : A) (xs : List A) (i k : ℕ) (a d : A) → SetOrSame xs i a k d → SetOrSame (x ∷ xs) (suc i) a (suc k) d
SetOrSame-next x xs i k a d (inl same) = inl same
SetOrSame-next x xs i k a d (inr here) = inr (ap suc here.0, here.1)

pub set_or_same : {A : Type 0} (xs : List A) (i k : ℕ) (a d : A) → SetOrSame xs i a k d
set_or_same [] i k a d = inl refl
set_or_same (x ∷ xs) zero zero a d = inr (refl, refl)
set_or_same (x ∷ xs) zero (suc k) a d = inl refl
set_or_same (x ∷ xs) (suc i) zero a d = inl refl
set_or_same (x ∷ xs) (suc i) (suc k) a d = SetOrSame-next x xs i k a d (set_or_same xs i k a d)

-- that follower is its whole draft, or it is told that it is not
abbrev pub Answered : State → State → ℕ → Type 0
Answered s t k = (follower k t.names ≡ Some (waiting_text k s)) ⊎ IsRefused k t

Answered-placing : (at k : ℕ) (s t : State) → t.waiting ≡ s.waiting → Answered s t k →
    SetOrSame t.names.followers at (Some (waiting_text at t)) k None → Answered s (placing_follower at t) k
Answered-placing at k s t waits (inr told) moved = inr told
Answered-placing at k s t waits (inl before) (inl same) = inl (same ∙ before)
Answered-placing at k s t waits (inl before) (inr here) = inl (here.1 ∙ rw (here.0, waits) refl)

Answered-refusing : (at k : ℕ) (s t : State) → Answered s t k → SetOrSame t.refused at true k false → Answered s (refusing_follower at t) k
Answered-refusing at k s t (inl before) moved = inl before
Answered-refusing at k s t (inr told) (inl same) = inr (same ∙ told)
Answered-refusing at k s t (inr told) (inr here) = inr here.1

-- one follower more is in place
pub SoFar-placing : (at : ℕ) (s t : State) → at < length s.waiting → SoFar at s t → SoFar (at + 1) s (placing_follower at t)
SoFar-placing at s t within so = record {
  follows = record {
    file = so.follows.file;
    draft = so.follows.draft;
    waiting = so.follows.waiting;
    each = below_more (Answered s (placing_follower at t)) at
        (λ k below. Answered-placing at k s t so.follows.waiting (so.follows.each k below) (set_or_same t.names.followers at k (Some (waiting_text at t)) None))
        (inl (get_or-set_same t.names.followers at (Some (waiting_text at t)) None (omega (arith, so.names)) ∙ rw so.follows.waiting refl));
  };
  names = length-set t.names.followers at (Some (waiting_text at t)) ∙ so.names;
  answers = so.answers;
  synced = so.synced;
}

synced-refusing : (at k : ℕ) (t : State) → IsSynced k t ⊎ IsRefused k t → SetOrSame t.refused at true k false →
    IsSynced k t ⊎ IsRefused k (refusing_follower at t)
synced-refusing at k t (inl synced) moved = inl synced
synced-refusing at k t (inr told) (inl same) = inr (same ∙ told)
synced-refusing at k t (inr told) (inr here) = inr here.1

-- one more is refused
pub SoFar-refusing : (at : ℕ) (s t : State) → at < length s.waiting → SoFar at s t → SoFar (at + 1) s (refusing_follower at t)
SoFar-refusing at s t within so = record {
  follows = record {
    file = so.follows.file;
    draft = so.follows.draft;
    waiting = so.follows.waiting;
    each = below_more (Answered s (refusing_follower at t)) at
        (λ k below. Answered-refusing at k s t (so.follows.each k below) (set_or_same t.refused at k true false))
        (inr (get_or-set_same t.refused at true false (omega (arith, so.answers))));
  };
  names = so.names;
  answers = length-set t.refused at true ∙ so.answers;
  synced = λ k below. synced-refusing at k t (so.synced k below) (set_or_same t.refused at k true false);
}

-- one was refused before
pub SoFar-refused : (at : ℕ) (s t : State) → at < length s.waiting → IsRefused at t → SoFar at s t → SoFar (at + 1) s t
SoFar-refused at s t within refused so = record {
  follows = record {
    file = so.follows.file;
    draft = so.follows.draft;
    waiting = so.follows.waiting;
    each = below_more (Answered s t) at so.follows.each (inr refused);
  };
  names = so.names;
  answers = so.answers;
  synced = so.synced;
}

pub Leads-refused : (at n : ℕ) (answer : Bool) (old mid : Option State) → IfSome old (λ s. n ≡ length s.waiting) → at < n →
    IfSome mid (λ t. answer ≡ get_or t.refused at false) → answer ≡ true → Leads (SoFar at) old mid → Leads (SoFar (at + 1)) old mid
Leads-refused at n answer None mid number below told is_yes so = tt
Leads-refused at n answer (Some s) None number below told is_yes so = absurd so
Leads-refused at n answer (Some s) (Some t) number below told is_yes so =
    SoFar-refused at s t (omega (arith, number)) (sym told ∙ is_yes) so

-- one follower more is put in place, or refused: whichever the call answered, and whatever is told of the place then
SoFar-put : {X E : Type 0} (r : Result X E) (at : ℕ) (s t : State) (new : Option State) → at < length s.waiting → SoFar at s t →
    OnOk r (new ≡ Some (placing_follower at t)) → OnErr r (new ≡ Some (refusing_follower at t)) → IsSomeAnd new (SoFar (at + 1) s)
SoFar-put (Ok x) at s t new within so placed refused = rw placed (SoFar-placing at s t within so)
SoFar-put (Err e) at s t new within so placed refused = rw refused (SoFar-refusing at s t within so)

pub Leads-put : {X E : Type 0} (r : Result X E) (at n : ℕ) (old mid new : Option State) → IfSome old (λ s. n ≡ length s.waiting) → at < n →
    Leads (SoFar at) old mid → OnOk r (Becomes (placing_follower at) mid new) → OnErr r (Becomes (refusing_follower at) mid new) →
    Leads (SoFar (at + 1)) old new
Leads-put r at n None mid new number below so placed refused = tt
Leads-put r at n (Some s) None new number below so placed refused = absurd so
Leads-put r at n (Some s) (Some t) new number below so placed refused =
    SoFar-put r at s t new (omega (arith, number)) so placed refused

put_each : (at k : ℕ) (s t : State) (d c : Names) → t.waiting ≡ s.waiting →
    (follower k c ≡ follower k d) ⊎ (follower k c ≡ Some (waiting_text k s)) →
    SetOrSame c.followers at (Some (waiting_text at t)) k None →
    (follower k (with_follower at (waiting_text at t) c) ≡ follower k d) ⊎ (follower k (with_follower at (waiting_text at t) c) ≡ Some (waiting_text k s))
put_each at k s t d c waits (inl before) (inl same) = inl (same ∙ before)
put_each at k s t d c waits (inr whole) (inl same) = inr (same ∙ whole)
put_each at k s t d c waits may (inr here) = inr (here.1 ∙ rw (here.0, waits) refl)

-- who found a follower as it was, or whole, finds it so after one more
MayFollow-put : (at : ℕ) (s t : State) (d c e : Names) → t.waiting ≡ s.waiting → MayFollow s d c →
    e ≡ with_follower at (waiting_text at t) c → MayFollow s d e
MayFollow-put at s t d c e waits may placed = rw placed (record {
  file = may.file;
  each = λ k. put_each at k s t d c waits (may.each k) (set_or_same c.followers at k (Some (waiting_text at t)) None);
})

-- names that may be found, from some that might be found as the followers began
abbrev pub Following : Option State → (Names → Type 0) → (Names → Type 0) → Type 0
Following old may_find new = IfSome old (λ s. (c : Names) → new c → (d : Names) × may_find d × MayFollow s d c)

pub Following-begin : (old : Option State) (may_find : Names → Type 0) → Following old may_find may_find
Following-begin None may_find = tt
Following-begin (Some s) may_find = λ c may. (c, may, record { file = refl; each = λ k. inl refl })

from_either : (at : ℕ) (s t : State) (begun may_find : Names → Type 0) (c : Names) → SoFar at s t → IsSynced at t →
    ((c : Names) → may_find c → (d : Names) × begun d × MayFollow s d c) →
    may_find c ⊎ ((d : Names) × (text : List ℕ) × may_find d × (IsSynced at t → text ≡ waiting_text at t) × (c ≡ with_follower at text d)) →
    (d : Names) × begun d × MayFollow s d c
from_either at s t begun may_find c so synced before (inl was) = before c was
from_either at s t begun may_find c so synced before (inr (d, text, may, whole, placed)) =
    let b : (e : Names) × begun e × MayFollow s e d = before d may in
    let is_whole : text ≡ waiting_text at t = whole synced in
    (b.0, b.1, MayFollow-put at s t b.0 d c so.follows.waiting b.2 (rw is_whole at placed))

synced_now : (at : ℕ) (t : State) → IsSynced at t ⊎ IsRefused at t → get_or t.refused at false ≡ false → IsSynced at t
synced_now at t (inl synced) is_no = synced
synced_now at t (inr refused) is_no = cc

pub Following-put : (at n : ℕ) (answer : Bool) (old mid : Option State) (begun may_find new : Names → Type 0) →
    IfSome old (λ s. n ≡ length s.waiting) → at < n →
    IfSome mid (λ t. answer ≡ get_or t.refused at false) → answer ≡ false → Leads (SoFar at) old mid → Following old begun may_find →
    IfSome mid (λ t. Renames (with_follower at) may_find (λ text. IsSynced at t → text ≡ waiting_text at t) new) → Following old begun new
Following-put at n answer None mid begun may_find new number below told is_no so before renames = tt
Following-put at n answer (Some s) None begun may_find new number below told is_no so before renames = absurd so
Following-put at n answer (Some s) (Some t) begun may_find new number below told is_no so before renames =
    let waits : t.waiting ≡ s.waiting = so.follows.waiting in
    let same : length t.waiting ≡ length s.waiting = ap length waits in
    let synced : IsSynced at t = synced_now at t (so.synced at (omega (arith, number, same))) (sym told ∙ is_no) in
    λ c may. from_either at s t begun may_find c so synced before (renames c may)

-- less may be found
pub Following-less : (old : Option State) (begun may_find new : Names → Type 0) → Following old begun may_find →
    ((c : Names) → new c → may_find c) → Following old begun new
Following-less None begun may_find new before less = tt
Following-less (Some s) begun may_find new before less = λ c may. before c (less c may)

since : (s : State) (begun found may_find later : Names → Type 0) (c : Names) →
    SinceThen found later (λ c. (d : Names) × begun d × MayFollow s d c) → ((c : Names) → may_find c → (d : Names) × begun d × MayFollow s d c) →
    later c ⊎ may_find c → found c ⊎ ((d : Names) × begun d × MayFollow s d c)
since s begun found may_find later c before now (inl was) = before c was
since s begun found may_find later c before now (inr may) = inr (now c may)

-- what was found so far is of the same kind
pub Following-found : (old : Option State) (begun found may_find later new : Names → Type 0) →
    IfSome old (λ s. SinceThen found later (λ c. (d : Names) × begun d × MayFollow s d c)) →
    GoesOn later new may_find → Following old begun may_find →
    IfSome old (λ s. SinceThen found new (λ c. (d : Names) × begun d × MayFollow s d c))
Following-found None begun found may_find later new before on now = tt
Following-found (Some s) begun found may_find later new before on now = λ c was. since s begun found may_find later c before now ((on c).0 was)

later_answer : (k : ℕ) (s t u : State) → MayRefuse t u → Answered s t k → Answered s u k
later_answer k s t u more (inl there) = inl (ap (λ x. follower k x.names) more.same ∙ there)
later_answer k s t u more (inr told) = inr (more.still k told)

following-settled : (n at : ℕ) (s t u : State) → n ≡ length s.waiting → n ≤ at → SoFar at s t → MayRefuse t u → AreFollowing (length s.waiting) s u
following-settled n at s t u number done so more = record {
  file = ap (λ x. x.names.file) more.same ∙ so.follows.file;
  draft = ap (λ x. x.draft) more.same ∙ so.follows.draft;
  waiting = ap (λ x. x.waiting) more.same ∙ so.follows.waiting;
  each = λ k below. later_answer k s t u more (so.follows.each k (omega (arith, number)));
}

-- all followers were put in place, or refused, and then their names were put on the disk
pub Leads-all : (n at : ℕ) (old mid new : Option State) → IfSome old (λ s. n ≡ length s.waiting) → n ≤ at → Leads (SoFar at) old mid →
    BecomesBy MayRefuse mid new → Leads (λ s t. AreFollowing (length s.waiting) s t) old new
Leads-all n at None mid new number done so more = tt
Leads-all n at (Some s) None new number done so more = absurd so
Leads-all n at (Some s) (Some t) None number done so more = absurd more
Leads-all n at (Some s) (Some t) (Some u) number done so more = following-settled n at s t u number done so more

there : (k : ℕ) (may_find : Names → Type 0) (s u : State) → IsRefused k u ⊎ ((c : Names) → may_find c → follower k c ≡ follower k u.names) →
    Answered s u k → IsRefused k u ⊎ ((c : Names) → may_find c → follower k c ≡ Some (waiting_text k s))
there k may_find s u (inl refused) answer = inl refused
there k may_find s u (inr same) (inl whole) = inr (λ c may. same c may ∙ whole)
there k may_find s u (inr same) (inr told) = inl told

pub Leads-there : (old new : Option State) (may_find : Names → Type 0) → Leads (λ s t. AreFollowing (length s.waiting) s t) old new →
    IfSome new (AreSettled may_find) → Leads (AreThere may_find) old new
Leads-there None new may_find follow settled = tt
Leads-there (Some s) None may_find follow settled = absurd follow
Leads-there (Some s) (Some u) may_find follow settled =
    let waits : length u.waiting ≡ length s.waiting = ap length follow.waiting in
    λ k below. there k may_find s u (settled k (omega (arith, below, waits))) (follow.each k below)

-- none of them so far
pub Leads-none : (old : Option State) → IfSome old HasEach → IfSome old AreSynced → Leads (SoFar 0) old old
Leads-none None each synced = tt
Leads-none (Some s) each synced = record {
  follows = record { file = refl; draft = refl; waiting = refl; each = λ k below. absurd (omega (arith, below)) };
  names = each.names;
  answers = each.answers;
  synced = synced;
}
