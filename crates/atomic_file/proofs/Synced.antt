-- What is said of a place whose followers' drafts were put on the disk first, said of it as it was before.
use Rattle.std.proofs.Common.{◌≡◌, ◌⊎◌, ℕ, List, length, take, sym, ◌∙◌, ap, subst, inl, inr, arith}
use Rattle.std.specs.Prelude.{Option, Some, None, Result, Ok, Err, OnOk, IfErr, IfSome}
use Rattle.atomic_file.specs.declared.failed.KeepError.{KeepError}
use Rattle.atomic_file.specs.Names.{Names, State, waiting_text, with_file, IsRefused}
use Rattle.std.proofs.lemmas.Option.{same_Some}
use Rattle.atomic_file.specs.Looking.{Only, Stays, GoesOn, Becomes, BecomesBy}
use Rattle.atomic_file.specs.Keeping.{follower, HaveSynced, AreSynced, AreFollowing, AreThere, MayFollow, FileFirst, SinceThen, Leads}
use Rattle.atomic_file.proofs.Followers.{Following, Following-begin}

-- the draft of each is on the disk then
pub all_synced : (old mid : Option State) → BecomesBy HaveSynced old mid → IfSome mid AreSynced
all_synced None None on = tt
all_synced None (Some m) on = cc
all_synced (Some s) None on = absurd on
all_synced (Some s) (Some m) on = on.each

-- what lies under the names is on the disk still
pub settled : (old mid : Option State) (begun may_find : Names → Type 0) → BecomesBy HaveSynced old mid →
    IfSome old (λ s. Only s.names begun) → Stays begun may_find → IfSome mid (λ m. Only m.names may_find)
settled None None begun may_find on only stays = tt
settled None (Some m) begun may_find on only stays = cc
settled (Some s) None begun may_find on only stays = absurd on
settled (Some s) (Some m) begun may_find on only stays = λ c may. only c (stays c may) ∙ sym (ap (λ x. x.names) on.same)

either : (K : Names → Type 0) (before begun may_find : Names → Type 0) (c : Names) → Stays begun may_find → ((c : Names) → begun c → K c) →
    before c ⊎ may_find c → before c ⊎ K c
either K before begun may_find c stays kind (inl was) = inl was
either K before begun may_find c stays kind (inr may) = inr (kind c (stays c may))

next : (K L : Names → Type 0) (before begun may_find later : Names → Type 0) (c : Names) → Stays begun may_find → GoesOn before later may_find →
    ((c : Names) → begun c → K c) → ((c : Names) → L c → K c) → later c ⊎ L c → before c ⊎ K c
next K L before begun may_find later c stays on kind same (inl was) = either K before begun may_find c stays kind ((on c).0 was)
next K L before begun may_find later c stays on kind same (inr now) = inr (same c now)

-- what was found since then
pub since : (K L : State → Names → Type 0) (old mid : Option State) (before begun may_find later found : Names → Type 0) →
    BecomesBy HaveSynced old mid → Stays begun may_find → GoesOn before later may_find → IfSome old (λ s. (c : Names) → begun c → K s c) →
    ((s m : State) → HaveSynced s m → (c : Names) → L m c → K s c) →
    IfSome mid (λ m. SinceThen later found (L m)) → IfSome old (λ s. SinceThen before found (K s))
since K L None mid before begun may_find later found on stays time kind same now = tt
since K L (Some s) None before begun may_find later found on stays time kind same now = absurd on
since K L (Some s) (Some m) before begun may_find later found on stays time kind same now =
    λ c was. next (K s) (L m) before begun may_find later c stays time kind (same s m on) (now c was)

-- what is told, and what is found, then
pub leads : (P Q : State → State → Type 0) (old mid new : Option State) → BecomesBy HaveSynced old mid →
    ((s m t : State) → HaveSynced s m → P m t → Q s t) → Leads P mid new → Leads Q old new
leads P Q None mid new on same now = tt
leads P Q (Some s) None new on same now = absurd on
leads P Q (Some s) (Some m) None on same now = absurd now
leads P Q (Some s) (Some m) (Some t) on same now = same s m t on now

pub somes : (P Q : State → Type 0) (old mid : Option State) → BecomesBy HaveSynced old mid → ((s m : State) → HaveSynced s m → P m → Q s) →
    IfSome mid P → IfSome old Q
somes P Q None mid on same now = tt
somes P Q (Some s) None on same now = absurd on
somes P Q (Some s) (Some m) on same now = same s m on now

-- what does not speak of it as it was
pub leads_same : (P : State → Type 0) (old mid new : Option State) → BecomesBy HaveSynced old mid → Leads (λ _ t. P t) mid new → Leads (λ _ t. P t) old new
leads_same P old mid new on now = leads (λ _ t. P t) (λ _ t. P t) old mid new on (λ s m t same is. is) now

pub sent_same : {X : Type 0} (text : List ℕ) (r : Result X KeepError) (old mid new : Option State) → BecomesBy HaveSynced old mid →
    IfErr r (λ e. Leads (λ _ t. t.draft ≡ take e.sent text) mid new) → IfErr r (λ e. Leads (λ _ t. t.draft ≡ take e.sent text) old new)
sent_same text (Ok x) old mid new on now = tt
sent_same text (Err e) old mid new on now = leads_same (λ t. t.draft ≡ take e.sent text) old mid new on now

pub if_ok : {X E : Type 0} {P Q : Type 0} (r : Result X E) → (P → Q) → OnOk r P → OnOk r Q
if_ok (Ok x) f p = f p
if_ok (Err e) f p = tt

follow_each : (k : ℕ) (s m : State) (d c : Names) → HaveSynced s m → (follower k c ≡ follower k d) ⊎ (follower k c ≡ Some (waiting_text k m)) →
    (follower k c ≡ follower k d) ⊎ (follower k c ≡ Some (waiting_text k s))
follow_each k s m d c on (inl same) = inl same
follow_each k s m d c on (inr whole) = inr (whole ∙ ap (λ x. Some (waiting_text k x)) on.same)

pub may_follow : (s m : State) (d c : Names) → HaveSynced s m → MayFollow m d c → MayFollow s d c
may_follow s m d c on may = record { file = may.file; each = λ k. follow_each k s m d c on (may.each k) }

each_then : (k : ℕ) (s m t : State) → HaveSynced s m → (follower k t.names ≡ Some (waiting_text k m)) ⊎ IsRefused k t →
    (follower k t.names ≡ Some (waiting_text k s)) ⊎ IsRefused k t
each_then k s m t on (inl whole) = inl (whole ∙ ap (λ x. Some (waiting_text k x)) on.same)
each_then k s m t on (inr refused) = inr refused

waiting_same : (s m : State) → HaveSynced s m → length m.waiting ≡ length s.waiting
waiting_same s m on = ap (λ x. length x.waiting) on.same

pub follow : (s m t : State) → HaveSynced s m → AreFollowing (length m.waiting) m t → AreFollowing (length s.waiting) s t
follow s m t on are = let waits = waiting_same s m on in record {
  file = are.file ∙ ap (λ x. x.names.file) on.same;
  draft = are.draft ∙ ap (λ x. x.draft) on.same;
  waiting = are.waiting ∙ ap (λ x. x.waiting) on.same;
  each = λ k below. each_then k s m t on (are.each k (omega (arith, below, waits)));
}

-- the same, where a text was kept
pub follow_text : (text : List ℕ) (s m t : State) → HaveSynced s m →
    AreFollowing (length m.waiting) (record m { names = with_file text m.names; draft = text }) t →
    AreFollowing (length s.waiting) (record s { names = with_file text s.names; draft = text }) t
follow_text text s m t on are = let waits = waiting_same s m on in record {
  file = are.file;
  draft = are.draft;
  waiting = are.waiting ∙ ap (λ x. x.waiting) on.same;
  each = λ k below. each_then k s m t on (are.each k (omega (arith, below, waits)));
}

there_each : (k : ℕ) (s m t : State) (may_find : Names → Type 0) → HaveSynced s m →
    IsRefused k t ⊎ ((c : Names) → may_find c → follower k c ≡ Some (waiting_text k m)) →
    IsRefused k t ⊎ ((c : Names) → may_find c → follower k c ≡ Some (waiting_text k s))
there_each k s m t may_find on (inl refused) = inl refused
there_each k s m t may_find on (inr whole) = inr (λ c may. whole c may ∙ ap (λ x. Some (waiting_text k x)) on.same)

pub are_there : (may_find : Names → Type 0) (s m t : State) → HaveSynced s m → AreThere may_find m t → AreThere may_find s t
are_there may_find s m t on are =
    let waits = waiting_same s m on in λ k below. there_each k s m t may_find on (are k (omega (arith, below, waits)))

-- the names under which nothing changed
pub names_same : (s m : State) → HaveSynced s m → m.names ≡ s.names
names_same s m on = ap (λ x. x.names) on.same

-- and still there where nothing of the followers is otherwise
pub synced_still : (change : State → State) (old new : Option State) → ((s : State) → AreSynced s → AreSynced (change s)) →
    Becomes change old new → IfSome old AreSynced → IfSome new AreSynced
synced_still change None None same on synced = tt
synced_still change None (Some t) same on synced = cc
synced_still change (Some s) None same on synced = cc
synced_still change (Some s) (Some t) same on synced = subst AreSynced (sym (same_Some _ _ on)) (same s synced)

-- what was found since then of followers that were put in place
pub since_follow : (old mid : Option State) (before begun may_find later found : Names → Type 0) →
    BecomesBy HaveSynced old mid → Stays begun may_find → GoesOn before later may_find →
    IfSome mid (λ m. SinceThen later found (λ c. (d : Names) × may_find d × MayFollow m d c)) →
    IfSome old (λ s. SinceThen before found (λ c. (d : Names) × begun d × MayFollow s d c))
since_follow old mid before begun may_find later found on stays time now =
    since (λ s c. (d : Names) × begun d × MayFollow s d c) (λ m c. (d : Names) × may_find d × MayFollow m d c) old mid before begun may_find later found
    on stays time (Following-begin old begun) (λ s m same c f. (f.0, stays f.0 f.1, may_follow s m f.0 c same f.2)) now

pub follow_after : (old mid : Option State) (begun may_find new : Names → Type 0) → BecomesBy HaveSynced old mid → Stays begun may_find →
    Following mid may_find new → Following old begun new
follow_after old mid begun may_find new on stays now =
    somes (λ m. (c : Names) → new c → (d : Names) × may_find d × MayFollow m d c) (λ s. (c : Names) → new c → (d : Names) × begun d × MayFollow s d c) old mid on
    (λ s m same follow c may. let f = follow c may in (f.0, stays f.0 f.1, may_follow s m f.0 c same f.2)) now

begins : (K : State → Names → Type 0) (old : Option State) (begun : Names → Type 0) → IfSome old (λ s. Only s.names begun) → ((s : State) → K s s.names) →
    IfSome old (λ s. (c : Names) → begun c → K s c)
begins K None begun only kind = tt
begins K (Some s) begun only kind = λ c may. subst (K s) (sym (only c may)) (kind s)

-- what was found since then of a place that keeps a text
pub since_kept : (K : State → Names → Type 0) (old mid : Option State) (before begun may_find later found : Names → Type 0) →
    BecomesBy HaveSynced old mid → IfSome old (λ s. Only s.names begun) → Stays begun may_find → GoesOn before later may_find →
    ((s : State) → K s s.names) → ((s m : State) → HaveSynced s m → (c : Names) → K m c → K s c) →
    IfSome mid (λ m. SinceThen later found (K m)) → IfSome old (λ s. SinceThen before found (K s))
since_kept K old mid before begun may_find later found on only stays time kind same now =
    since K K old mid before begun may_find later found on stays time (begins K old begun only kind) same now

pub first_same : (text : List ℕ) (s m : State) → HaveSynced s m → (c : Names) → FileFirst m.names text c → FileFirst s.names text c
first_same text s m on c (inl e) = inl (e ∙ names_same s m on)
first_same text s m on c (inr e) = inr e

pub whole_same : (text : List ℕ) (s m : State) → HaveSynced s m → (c : Names) →
    (c ≡ m.names) ⊎ MayFollow m (with_file text m.names) c → (c ≡ s.names) ⊎ MayFollow s (with_file text s.names) c
whole_same text s m on c (inl e) = inl (e ∙ names_same s m on)
whole_same text s m on c (inr may) =
    inr (subst (λ names. MayFollow s (with_file text names) c) (names_same s m on) (may_follow s m (with_file text m.names) c on may))

pub followers_same : (s m : State) → HaveSynced s m → (c : Names) → c.followers ≡ m.names.followers → c.followers ≡ s.names.followers
followers_same s m on c e = e ∙ ap (λ names. names.followers) (names_same s m on)
