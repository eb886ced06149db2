-- Followers in memory that are put on the disk one after another, each unless its call fails, and what a crash leaves of them.
use Rattle.std.proofs.Common.{◌≡◌, ◌≢◌, ◌⊎◌, ℕ, zero, suc, ◌+◌, ◌<◌, ◌≤◌, List, ◌∷◌, set, map, get_or, length, true, false, Bool, refl, sym, ◌∙◌, ap, subst, inl, inr, arith}
use Rattle.std.specs.Prelude.{None, []}
use Rattle.std.proofs.lemmas.List.{get_or-set_same, length-map, ext_get_or, get_or-set_other, get_or_past}
use borrow.Author.Count.{below_more}
use Rattle.atomic_file.specs.declared.memory.MemoryFile.{MemoryFile}
use Rattle.atomic_file.specs.declared.memory.Shelf.{Shelf}
use Rattle.atomic_file.specs.Names.{Lying, Names, State, refusing_follower, IsRefused, IsSynced}
use Rattle.atomic_file.specs.Looking.{Only}
use Rattle.atomic_file.specs.Keeping.{follower, HaveSynced, MayRefuse, AreSettled}
use Rattle.atomic_file.specs.Memory.{lies, left, draft_of, names_of, state_of, may_be, IsSettled, AllSettled, Changes, syncing_slot, settling_slot, undoing_slot, refusing_slot, lies_at, left_at, Crashed}
use Rattle.atomic_file.proofs.Followers.{SetOrSame, set_or_same}
use Rattle.atomic_file.proofs.Slots.{Within, Within-same, Within-refusing, Within-syncing, Within-settling, Within-undoing, Within-stays, kept, changed, here, state-refusing, state-syncing, state-settling, undone_lies}

-- one more told as refused
refused_more : (at k : ℕ) (xs : List Bool) → get_or xs k false ≡ true → SetOrSame xs at true k false → get_or (set xs at true) k false ≡ true
refused_more at k xs told (inl same) = same ∙ told
refused_more at k xs told (inr (here_k, is)) = is

-- the drafts of the followers below n are on the disk, or these are refused
pub record Syncing {A : Type 0} (n : ℕ) (old new : Shelf A) : Type 0 where
  pub within : Within old new
  pub same : state_of new ≡ record (state_of old) { synced = (state_of new).synced; refused = (state_of new).refused }
  pub each : (k : ℕ) → k < n → IsSynced k (state_of new) ⊎ IsRefused k (state_of new)
  pub still : (k : ℕ) → IsRefused k (state_of old) → IsRefused k (state_of new)

none_synced : {A : Type 0} (shelf : Shelf A) → Syncing 0 shelf shelf
none_synced shelf = record { within = Within-same shelf; same = refl; each = λ k below. absurd (omega (arith, below)); still = λ k told. told }

pub Syncing-none : {A : Type 0} (old new : Shelf A) → new ≡ old → Syncing 0 old new
Syncing-none old new begun = subst (λ shelf. Syncing 0 old shelf) (sym begun) (none_synced old)

either_refused : (at k : ℕ) (s : State) → IsSynced k s ⊎ IsRefused k s → SetOrSame s.refused at true k false →
    IsSynced k s ⊎ IsRefused k (refusing_follower at s)
either_refused at k s (inl synced) moved = inl synced
either_refused at k s (inr told) moved = inr (refused_more at k s.refused told moved)

either_synced : (at k : ℕ) (s : State) → IsSynced k s ⊎ IsRefused k s → SetOrSame s.synced at true k false →
    (get_or (set s.synced at true) k false ≡ true) ⊎ IsRefused k s
either_synced at k s (inl synced) moved = inl (refused_more at k s.synced synced moved)
either_synced at k s (inr told) moved = inr told

pub Syncing-refused : {A : Type 0} (at : ℕ) (old mid new : Shelf A) → Syncing at old mid → Changes refusing_slot at mid new →
    at < length mid.followers.items → Syncing (at + 1) old new
Syncing-refused at old mid new so one bound =
    let now : state_of new ≡ refusing_follower at (state_of mid) = state-refusing at mid new one in
    let inside : at < length (state_of mid).refused = omega (arith, bound, length-map mid.followers.items (λ x. x.is_refused)) in
    record {
      within = Within-refusing at old mid new so.within one bound;
      same = now ∙ ap (λ (s : State). record s { refused = set (state_of mid).refused at true }) so.same ∙ sym (ap (λ (s : State). record (state_of old) { synced = s.synced; refused = s.refused }) now);
      each = below_more (λ k. IsSynced k (state_of new) ⊎ IsRefused k (state_of new)) at
          (λ k below. subst (λ s. IsSynced k s ⊎ IsRefused k s) (sym now) (either_refused at k (state_of mid) (so.each k below) (set_or_same (state_of mid).refused at k true false)))
          (subst (λ s. IsSynced at s ⊎ IsRefused at s) (sym now) (inr (get_or-set_same (state_of mid).refused at true false inside)));
      still = λ k told. subst (λ s. IsRefused k s) (sym now) (refused_more at k (state_of mid).refused (so.still k told) (set_or_same (state_of mid).refused at k true false));
    }

pub Syncing-synced : {A : Type 0} (at : ℕ) (old mid new : Shelf A) → Syncing at old mid → Changes syncing_slot at mid new →
    at < length mid.followers.items → Syncing (at + 1) old new
Syncing-synced at old mid new so one bound =
    let now : state_of new ≡ record (state_of mid) { synced = set (state_of mid).synced at true } = state-syncing at mid new one in
    let inside : at < length (state_of mid).synced = omega (arith, bound, length-map mid.followers.items (λ x. x.is_synced)) in
    record {
      within = Within-syncing at old mid new so.within one bound;
      same = now ∙ ap (λ (s : State). record s { synced = set (state_of mid).synced at true }) so.same ∙ sym (ap (λ (s : State). record (state_of old) { synced = s.synced; refused = s.refused }) now);
      each = below_more (λ k. IsSynced k (state_of new) ⊎ IsRefused k (state_of new)) at
          (λ k below. subst (λ s. IsSynced k s ⊎ IsRefused k s) (sym now) (either_synced at k (state_of mid) (so.each k below) (set_or_same (state_of mid).synced at k true false)))
          (subst (λ s. IsSynced at s ⊎ IsRefused at s) (sym now) (inl (get_or-set_same (state_of mid).synced at true false inside)));
      still = λ k told. subst (λ s. IsRefused k s) (sym now) (so.still k told);
    }

-- those of all
pub Syncing-all : {A : Type 0} (n : ℕ) (old new : Shelf A) → length old.followers.items ≤ n → Syncing n old new → HaveSynced (state_of old) (state_of new)
Syncing-all n old new done so = record {
  same = so.same;
  each = λ k below. so.each k (omega (arith, below, done, length-map new.followers.items draft_of, so.within.count));
  still = so.still;
}

-- what is on the disk is found as it is
settled_left : {A : Type 0} (slots : List (MemoryFile A)) (k : ℕ) → get_or (map (λ slot. slot.is_settled) slots) k true ≡ true →
    get_or (map left slots) k None ≡ get_or (map lies slots) k None
settled_left [] k is = refl
settled_left (slot ∷ slots) zero is = rw is refl
settled_left (slot ∷ slots) (suc k) is = settled_left slots k is

found_there : (k : ℕ) (x : Lying) (lie leave : Lying) → leave ≡ lie → (x ≡ lie) ⊎ (x ≡ leave) → x ≡ lie
found_there k x lie leave same (inl e) = e
found_there k x lie leave same (inr e) = e ∙ same

-- where a name is on the disk, that is found which is told
pub found_settled : {A : Type 0} (k : ℕ) (shelf : Shelf A) (c : Names) → IsSettled k shelf → may_be shelf c → follower k c ≡ follower k (names_of shelf)
found_settled k shelf c is may = found_there k (follower k c) (lies_at k shelf) (left_at k shelf) (settled_left shelf.followers.items k is) (may.each k)

-- and where all is, nothing else
pub Only-settled : {A : Type 0} (shelf : Shelf A) → AllSettled shelf → Only (names_of shelf) (may_be shelf)
Only-settled shelf all = λ c may.
    let file : c.file ≡ lies shelf.file = found_there 0 c.file (lies shelf.file) (left shelf.file) (left_file shelf all.file) may.file in
    let count : length c.followers ≡ length (map lies shelf.followers.items) = may.number ∙ sym (length-map shelf.followers.items lies) in
    let each : c.followers ≡ map lies shelf.followers.items = ext_get_or None c.followers (map lies shelf.followers.items) count (λ k below. found_settled k shelf c (all.each k) may) in
    rw (sym file, sym each) refl
  where
    left_file : {A : Type 0} (shelf : Shelf A) → shelf.file.is_settled ≡ true → left shelf.file ≡ lies shelf.file
    left_file shelf is = rw is refl

-- the names of the followers below n are there to stay, or these are refused
pub record Settling {A : Type 0} (n : ℕ) (old new : Shelf A) : Type 0 where
  pub within : Within old new
  pub same : state_of new ≡ record (state_of old) { refused = (state_of new).refused }
  pub each : (k : ℕ) → k < n → IsRefused k (state_of new) ⊎ IsSettled k new
  pub still : (k : ℕ) → IsRefused k (state_of old) → IsRefused k (state_of new)

none_settled : {A : Type 0} (shelf : Shelf A) → Settling 0 shelf shelf
none_settled shelf = record { within = Within-same shelf; same = refl; each = λ k below. absurd (omega (arith, below)); still = λ k told. told }

pub Settling-none : {A : Type 0} (old new : Shelf A) → new ≡ old → Settling 0 old new
Settling-none old new begun = subst (λ shelf. Settling 0 old shelf) (sym begun) (none_settled old)

settled_more : (at k : ℕ) (xs : List Bool) → get_or xs k true ≡ true → SetOrSame xs at true k true → get_or (set xs at true) k true ≡ true
settled_more at k xs told (inl same) = same ∙ told
settled_more at k xs told (inr (here_k, is)) = is

-- one name more is on the disk
pub settled_next : {A : Type 0} (change : MemoryFile A → MemoryFile A) (at k : ℕ) (old new : Shelf A) (one : Changes change at old new) →
    (change one.slot).is_settled ≡ true → IsSettled k old → IsSettled k new
settled_next change at k old new one is was =
    let flags = map (λ slot. slot.is_settled) old.followers.items in
    let now : map (λ slot. slot.is_settled) new.followers.items ≡ set flags at true = changed change at old new one (λ slot. slot.is_settled) ∙ ap (λ b. set flags at b) is in
    ap (λ xs. get_or xs k true) now ∙ settled_more at k flags was (set_or_same flags at k true true)

pub settled_here : {A : Type 0} (change : MemoryFile A → MemoryFile A) (at : ℕ) (old new : Shelf A) (one : Changes change at old new) →
    (change one.slot).is_settled ≡ true → at < length old.followers.items → IsSettled at new
settled_here change at old new one is bound =
    let flags = map (λ slot. slot.is_settled) old.followers.items in
    let inside : at < length flags = omega (arith, bound, length-map old.followers.items (λ slot. slot.is_settled)) in
    ap (λ xs. get_or xs at true) (changed change at old new one (λ slot. slot.is_settled)) ∙ get_or-set_same flags at ((change one.slot).is_settled) true inside ∙ is

either_settled : {A : Type 0} (k : ℕ) (old new : Shelf A) → (IsRefused k (state_of old) → IsRefused k (state_of new)) → (IsSettled k old → IsSettled k new) →
    IsRefused k (state_of old) ⊎ IsSettled k old → IsRefused k (state_of new) ⊎ IsSettled k new
either_settled k old new f g (inl told) = inl (f told)
either_settled k old new f g (inr is) = inr (g is)

pub Settling-refused : {A : Type 0} (at : ℕ) (old mid new : Shelf A) → Settling at old mid → Changes refusing_slot at mid new →
    at < length mid.followers.items → Settling (at + 1) old new
Settling-refused at old mid new so one bound =
    let now : state_of new ≡ refusing_follower at (state_of mid) = state-refusing at mid new one in
    let inside : at < length (state_of mid).refused = omega (arith, bound, length-map mid.followers.items (λ x. x.is_refused)) in
    let flags : map (λ slot. slot.is_settled) new.followers.items ≡ map (λ slot. slot.is_settled) mid.followers.items = kept refusing_slot at mid new one (λ slot. slot.is_settled) (λ x. refl) in
    let told : (k : ℕ) → IsRefused k (state_of mid) → IsRefused k (state_of new) = λ k was. subst (λ s. IsRefused k s) (sym now) (refused_more at k (state_of mid).refused was (set_or_same (state_of mid).refused at k true false)) in
    record {
      within = Within-refusing at old mid new so.within one bound;
      same = now ∙ ap (λ (s : State). record s { refused = set (state_of mid).refused at true }) so.same ∙ sym (ap (λ (s : State). record (state_of old) { refused = s.refused }) now);
      each = below_more (λ k. IsRefused k (state_of new) ⊎ IsSettled k new) at
          (λ k below. either_settled k mid new (told k) (λ is. ap (λ xs. get_or xs k true) flags ∙ is) (so.each k below))
          (inl (subst (λ s. IsRefused at s) (sym now) (get_or-set_same (state_of mid).refused at true false inside)));
      still = λ k was. told k (so.still k was);
    }

pub Settling-settled : {A : Type 0} (at : ℕ) (old mid new : Shelf A) → Settling at old mid → Changes settling_slot at mid new →
    at < length mid.followers.items → Settling (at + 1) old new
Settling-settled at old mid new so one bound =
    let now : state_of new ≡ state_of mid = state-settling at mid new one in
    record {
      within = Within-settling at old mid new so.within one bound;
      same = now ∙ so.same ∙ sym (ap (λ (s : State). record (state_of old) { refused = s.refused }) now);
      each = below_more (λ k. IsRefused k (state_of new) ⊎ IsSettled k new) at
          (λ k below. either_settled k mid new (λ told. subst (λ s. IsRefused k s) (sym now) told) (settled_next settling_slot at k mid new one refl) (so.each k below))
          (inr (settled_here settling_slot at mid new one refl bound));
      still = λ k was. subst (λ s. IsRefused k s) (sym now) (so.still k was);
    }

pub Settling-all : {A : Type 0} (n : ℕ) (old new : Shelf A) → Settling n old new → MayRefuse (state_of old) (state_of new)
Settling-all n old new so = record { same = so.same; still = so.still }

there_or_refused : {A : Type 0} (k : ℕ) (shelf : Shelf A) → IsRefused k (state_of shelf) ⊎ IsSettled k shelf →
    IsRefused k (state_of shelf) ⊎ ((c : Names) → may_be shelf c → follower k c ≡ follower k (state_of shelf).names)
there_or_refused k shelf (inl told) = inl told
there_or_refused k shelf (inr is) = inr (λ c may. found_settled k shelf c is may)

pub Settling-durable : {A : Type 0} (n : ℕ) (old new : Shelf A) → length old.followers.items ≤ n → Settling n old new → AreSettled (may_be new) (state_of new)
Settling-durable n old new done so =
    λ k below. there_or_refused k new (so.each k (omega (arith, below, done, length-map new.followers.items draft_of, so.within.count)))

-- of the followers below n a crash left the name or undid it, and what it left is there to stay
pub record Crashing {A : Type 0} (n : ℕ) (old new : Shelf A) : Type 0 where
  pub within : Within old new
  pub each : (k : ℕ) → k < n → IsSettled k new

pub Crashing-none : {A : Type 0} (old new : Shelf A) → Within old new → Crashing 0 old new
Crashing-none old new within = record { within = within; each = λ k below. absurd (omega (arith, below)) }

pub Crashing-settled : {A : Type 0} (at : ℕ) (old mid new : Shelf A) → Crashing at old mid → Changes settling_slot at mid new →
    at < length mid.followers.items → Crashing (at + 1) old new
Crashing-settled at old mid new so one bound = record {
  within = Within-settling at old mid new so.within one bound;
  each = below_more (λ k. IsSettled k new) at (λ k below. settled_next settling_slot at k mid new one refl (so.each k below)) (settled_here settling_slot at mid new one refl bound);
}

pub Crashing-undone : {A : Type 0} (at : ℕ) (old mid new : Shelf A) → Crashing at old mid → Changes undoing_slot at mid new →
    at < length mid.followers.items → Crashing (at + 1) old new
Crashing-undone at old mid new so one bound = record {
  within = Within-undoing at old mid new so.within one bound;
  each = below_more (λ k. IsSettled k new) at (λ k below. settled_next undoing_slot at k mid new one refl (so.each k below)) (settled_here undoing_slot at mid new one refl bound);
}

no_more : (xs : List Bool) (k : ℕ) → length xs ≤ k → get_or xs k true ≡ true
no_more [] k below = refl
no_more (x ∷ xs) zero below = absurd (omega (arith, below))
no_more (x ∷ xs) (suc k) below = no_more xs k (omega (arith, below))

cases_lt : (k n : ℕ) → (k < n) ⊎ (n ≤ k)
cases_lt zero zero = inr (omega arith)
cases_lt zero (suc n) = inl (omega arith)
cases_lt (suc k) zero = inr (omega arith)
cases_lt (suc k) (suc n) = by (cases_lt k n) where
  by : (k < n) ⊎ (n ≤ k) → (suc k < suc n) ⊎ (suc n ≤ suc k)
  by (inl below) = inl (omega (arith, below))
  by (inr above) = inr (omega (arith, above))

pub each_settled : {A : Type 0} (n : ℕ) (shelf : Shelf A) → ((k : ℕ) → k < n → IsSettled k shelf) → length shelf.followers.items ≤ n → (k : ℕ) → IsSettled k shelf
each_settled n shelf is done k = by (cases_lt k n) where
  by : (k < n) ⊎ (n ≤ k) → IsSettled k shelf
  by (inl below) = is k below
  by (inr above) = no_more (map (λ slot. slot.is_settled) shelf.followers.items) k (omega (arith, above, done, length-map shelf.followers.items (λ slot. slot.is_settled)))

pub Crashing-all : {A : Type 0} (n : ℕ) (old new : Shelf A) → length old.followers.items ≤ n → new.file.is_settled ≡ true → Crashing n old new → AllSettled new
Crashing-all n old new done file so = record { file = file; each = each_settled n new so.each (omega (arith, done, so.within.count)) }

pub Crashing-left : {A : Type 0} (n : ℕ) (old new : Shelf A) → Crashing n old new → may_be old (names_of new)
Crashing-left n old new so = Within-stays old new so.within (names_of new) (record {
  file = inl refl;
  number = length-map new.followers.items lies;
  each = λ k. inl refl;
})

-- where a crash has undone the file's name
undone_file : {A : Type 0} (old new : MemoryFile A) (x : Lying) → new ≡ undoing_slot old → (x ≡ lies new) ⊎ (x ≡ left new) → (x ≡ lies old) ⊎ (x ≡ left old)
undone_file old new x undone (inl e) = inr (e ∙ ap lies undone ∙ undone_lies old)
undone_file old new x undone (inr e) = inr (e ∙ ap left undone ∙ undone_lies old)

pub undone_lies_of : {A : Type 0} (old new : MemoryFile A) → new ≡ undoing_slot old → lies new ≡ left old
undone_lies_of old new undone = ap lies undone ∙ undone_lies old

pub Within-undone : {A : Type 0} (old new : Shelf A) → new.file ≡ undoing_slot old.file → new.followers ≡ old.followers → Within old new
Within-undone old new undone same = record {
  file = λ x may. undone_file old.file new.file x undone may;
  count = ap (λ v. length v.items) same;
  lies = λ k. inl (ap (λ v. get_or (map lies v.items) k None) same);
  left = λ k. inr (ap (λ v. get_or (map left v.items) k None) same);
}

-- one name more is there to stay
pub settled_below : {A : Type 0} (at : ℕ) (old new : Shelf A) → ((k : ℕ) → k < at → IsSettled k old) → Changes settling_slot at old new →
    at < length old.followers.items → (k : ℕ) → k < at + 1 → IsSettled k new
settled_below at old new so one bound =
    below_more (λ k. IsSettled k new) at (λ k below. settled_next settling_slot at k old new one refl (so k below)) (settled_here settling_slot at old new one refl bound)

-- a place that begins with these names, all of them there to stay
pub Only-begun : {A : Type 0} (shelf : Shelf A) (s : State) (file : Lying) → AllSettled shelf → state_of shelf ≡ s → s.names.file ≡ file →
    Only (record s.names { file = file }) (may_be shelf)
Only-begun shelf s file all told is = λ c may. Only-settled shelf all c may ∙ ap (λ x. x.names) told ∙ ap (λ x. record s.names { file = x }) is

pub Only-first : {A : Type 0} (shelf : Shelf A) (names : Names) → Only names (may_be shelf) → Only names (λ c. may_be shelf c ⊎ ⊥)
Only-first shelf names only = λ c found. by c found where
  by : (c : Names) → may_be shelf c ⊎ ⊥ → c ≡ names
  by c (inl may) = only c may
  by c (inr never) = absurd never

-- the names of the followers that stayed, and of those from n on, are as they were
abbrev pub Staying : {A : Type 0} → ℕ → List Bool → Shelf A → Shelf A → Type 0
Staying n stayed old new = (k : ℕ) → (get_or stayed k false ≡ true) ⊎ (n ≤ k) → lies_at k new ≡ lies_at k old

pub Staying-none : {A : Type 0} (stayed : List Bool) (old new : Shelf A) → new.followers ≡ old.followers → Staying 0 stayed old new
Staying-none stayed old new same = λ k said. ap (λ v. get_or (map lies v.items) k None) same

said_less : (at k : ℕ) (stayed : List Bool) → (get_or stayed k false ≡ true) ⊎ (at + 1 ≤ k) → (get_or stayed k false ≡ true) ⊎ (at ≤ k)
said_less at k stayed (inl said) = inl said
said_less at k stayed (inr above) = inr (omega (arith, above))

-- one more is there to stay
pub Staying-settled : {A : Type 0} (at : ℕ) (stayed : List Bool) (old mid new : Shelf A) → Staying at stayed old mid → Changes settling_slot at mid new →
    Staying (at + 1) stayed old new
Staying-settled at stayed old mid new so one =
    λ k said. ap (λ ys. get_or ys k None) (kept settling_slot at mid new one lies (λ x. refl)) ∙ so k (said_less at k stayed said)

is_other : (at k : ℕ) (stayed : List Bool) → get_or stayed at false ≡ false → (get_or stayed k false ≡ true) ⊎ (at + 1 ≤ k) → k ≢ at
is_other at k stayed lost (inl said) e = let here : get_or stayed at false ≡ true = ap (λ j. get_or stayed j false) (sym e) ∙ said in cc
is_other at k stayed lost (inr above) e = omega (arith, above, e)

-- one that did not stay is undone
pub Staying-undone : {A : Type 0} (at : ℕ) (stayed : List Bool) (old mid new : Shelf A) → get_or stayed at false ≡ false → Staying at stayed old mid →
    Changes undoing_slot at mid new → Staying (at + 1) stayed old new
Staying-undone at stayed old mid new lost so one =
    λ k said. ap (λ ys. get_or ys k None) (changed undoing_slot at mid new one lies)
    ∙ get_or-set_other (map lies mid.followers.items) at k (lies (undoing_slot one.slot)) None (is_other at k stayed lost said)
    ∙ so k (said_less at k stayed said)

-- the names of the followers below n that did not stay are undone, of those from n on a crash leaves what it left before,
-- and all else is as it was
pub record Undoing {A : Type 0} (n : ℕ) (stayed : List Bool) (old new : Shelf A) : Type 0 where
  pub below : (k : ℕ) → k < n → get_or stayed k false ≡ false → lies_at k new ≡ left_at k old
  pub later : (k : ℕ) → n ≤ k → left_at k new ≡ left_at k old
  pub same : state_of new ≡ record (state_of old) { names = names_of new }

pub Undoing-none : {A : Type 0} (stayed : List Bool) (old new : Shelf A) → new.file ≡ undoing_slot old.file → new.followers ≡ old.followers → Undoing 0 stayed old new
Undoing-none stayed old new file same = record {
  below = λ k before. absurd (omega (arith, before));
  later = λ k after. ap (λ v. get_or (map left v.items) k None) same;
  same = rw (file, same) refl;
}

-- one more is there to stay
pub Undoing-settled : {A : Type 0} (at : ℕ) (stayed : List Bool) (old mid new : Shelf A) → get_or stayed at false ≡ true → Undoing at stayed old mid →
    Changes settling_slot at mid new → Undoing (at + 1) stayed old new
Undoing-settled at stayed old mid new said so one = record {
  below = below_more (λ k. get_or stayed k false ≡ false → lies_at k new ≡ left_at k old) at
      (λ k before lost. ap (λ ys. get_or ys k None) (kept settling_slot at mid new one lies (λ x. refl)) ∙ so.below k before lost)
      (λ lost. cc);
  later = λ k after. ap (λ ys. get_or ys k None) (changed settling_slot at mid new one left)
      ∙ get_or-set_other (map left mid.followers.items) at k (left (settling_slot one.slot)) None (λ e. omega (arith, after, e))
      ∙ so.later k (omega (arith, after));
  same = let now = state-settling at mid new one in now ∙ so.same ∙ sym (ap (λ (s : State). record (state_of old) { names = s.names }) now);
}

-- what a crash does to the state of a follower whose name it undoes
state-undoing : {A : Type 0} (at : ℕ) (old new : Shelf A) → Changes undoing_slot at old new → state_of new ≡ record (state_of old) { names = names_of new }
state-undoing at old new one =
    let waiting = kept undoing_slot at old new one draft_of (λ x. refl) in
    let synced = kept undoing_slot at old new one (λ x. x.is_synced) (λ x. refl) in
    let refused = kept undoing_slot at old new one (λ x. x.is_refused) (λ x. refl) in
    let beside = kept undoing_slot at old new one (λ x. x.has_draft) (λ x. refl) in
    let file : new.file ≡ old.file = ap (λ shelf. shelf.file) one.same in
    rw (waiting, synced, refused, beside, file) refl

-- one that did not stay is undone
pub Undoing-undone : {A : Type 0} (at : ℕ) (stayed : List Bool) (old mid new : Shelf A) → Undoing at stayed old mid → Changes undoing_slot at mid new →
    at < length mid.followers.items → Undoing (at + 1) stayed old new
Undoing-undone at stayed old mid new so one bound = record {
  below = below_more (λ k. get_or stayed k false ≡ false → lies_at k new ≡ left_at k old) at
      (λ k before lost. ap (λ ys. get_or ys k None) (changed undoing_slot at mid new one lies)
      ∙ get_or-set_other (map lies mid.followers.items) at k (lies (undoing_slot one.slot)) None (λ e. omega (arith, before, e))
      ∙ so.below k before lost)
      (λ lost. ap (λ ys. get_or ys at None) (changed undoing_slot at mid new one lies)
      ∙ get_or-set_same (map lies mid.followers.items) at (lies (undoing_slot one.slot)) None (omega (arith, bound, length-map mid.followers.items lies))
      ∙ undone_lies one.slot
      ∙ sym (here undoing_slot at mid new one left None bound)
      ∙ so.later at (omega arith));
  later = λ k after. ap (λ ys. get_or ys k None) (changed undoing_slot at mid new one left)
      ∙ get_or-set_other (map left mid.followers.items) at k (left (undoing_slot one.slot)) None (λ e. omega (arith, after, e))
      ∙ so.later k (omega (arith, after));
  same = state-undoing at mid new one ∙ ap (λ (s : State). record s { names = names_of new }) so.same;
}

-- all names are left or undone
pub Undoing-all : {A : Type 0} (n : ℕ) (stayed : List Bool) (old new : Shelf A) → length old.followers.items ≤ n → length new.followers.items ≡ length old.followers.items →
    lies new.file ≡ left old.file → Undoing n stayed old new → Crashed stayed old new
Undoing-all n stayed old new done count file so = record { file = file; each = λ k lost. by k lost (cases_lt k n); same = so.same } where
  by : (k : ℕ) → get_or stayed k false ≡ false → (k < n) ⊎ (n ≤ k) → lies_at k new ≡ left_at k old
  by k lost (inl before) = so.below k before lost
  by k lost (inr after) = get_or_past (map lies new.followers.items) k None (omega (arith, after, done, count, length-map new.followers.items lies))
      ∙ sym (get_or_past (map left old.followers.items) k None (omega (arith, after, done, length-map old.followers.items left)))
