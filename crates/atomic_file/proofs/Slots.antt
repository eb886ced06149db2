-- Names in memory, of which one changes, or one after another.
use Rattle.std.proofs.Common.{◌≡◌, ◌≢◌, ◌⊎◌, ℕ, zero, suc, ◌<◌, List, set, map, get_or, length, true, false, Bool, refl, sym, ◌∙◌, ap, subst, inl, inr, arith}
use Rattle.std.specs.Prelude.{Some, None, []}
use Rattle.std.proofs.lemmas.List.{map-set, get_or-map, get_or-set_same, get_or-set_other, length-set, length-map, ext_get_or}
use Rattle.std.proofs.Math.Seq.{map-set_same}
use Rattle.atomic_file.specs.declared.memory.MemoryFile.{MemoryFile}
use Rattle.atomic_file.specs.declared.memory.Shelf.{Shelf}
use Rattle.atomic_file.specs.Names.{Lying, Names, with_file, with_follower, placing_follower, refusing_follower, dropping_follower, IsSynced, waiting_text}
use Rattle.atomic_file.specs.Looking.{Renames, Stays}
use Rattle.atomic_file.specs.Keeping.{follower}
use Rattle.atomic_file.specs.Memory.{lies, left, draft_of, state_of, may_be, Changes, placing_slot, syncing_slot, settling_slot, undoing_slot, refusing_slot, dropping_slot, lies_at, left_at}
use Rattle.atomic_file.proofs.Followers.{SetOrSame, set_or_same}

pub same_or_other : (m n : ℕ) → (m ≡ n) ⊎ (m ≢ n)
same_or_other zero zero = inl refl
same_or_other zero (suc n) = inr (λ e. omega (arith, e))
same_or_other (suc m) zero = inr (λ e. omega (arith, e))
same_or_other (suc m) (suc n) = by (same_or_other m n) where
  by : (m ≡ n) ⊎ (m ≢ n) → (suc m ≡ suc n) ⊎ (suc m ≢ suc n)
  by (inl e) = inl (ap suc e)
  by (inr o) = inr (λ e. o (omega (arith, e)))

-- what may be found under one name
abbrev pub IsFound : {A : Type 0} → MemoryFile A → Lying → Type 0
IsFound slot x = (x ≡ lies slot) ⊎ (x ≡ left slot)

abbrev pub IsFoundAt : {A : Type 0} → ℕ → Shelf A → Lying → Type 0
IsFoundAt k shelf x = (x ≡ lies_at k shelf) ⊎ (x ≡ left_at k shelf)

-- nothing may be found that could not be found before
pub record Within {A : Type 0} (old new : Shelf A) : Type 0 where
  pub file : (x : Lying) → IsFound new.file x → IsFound old.file x
  pub count : length new.followers.items ≡ length old.followers.items
  pub lies : (k : ℕ) → IsFoundAt k old (lies_at k new)
  pub left : (k : ℕ) → IsFoundAt k old (left_at k new)

pub Within-same : {A : Type 0} (shelf : Shelf A) → Within shelf shelf
Within-same shelf = record { file = λ x may. may; count = refl; lies = λ k. inl refl; left = λ k. inr refl }

found_within : {A : Type 0} (k : ℕ) (old new : Shelf A) (x : Lying) → Within old new → IsFoundAt k new x → IsFoundAt k old x
found_within k old new x within (inl e) = subst (λ y. IsFoundAt k old y) (sym e) (within.lies k)
found_within k old new x within (inr e) = subst (λ y. IsFoundAt k old y) (sym e) (within.left k)

pub Within-stays : {A : Type 0} (old new : Shelf A) → Within old new → Stays (may_be old) (may_be new)
Within-stays old new within = λ c may. record {
  file = within.file c.file may.file;
  number = may.number ∙ within.count;
  each = λ k. found_within k old new (follower k c) within (may.each k);
}

module _ {A : Type 0} (change : MemoryFile A → MemoryFile A) (at : ℕ) (old new : Shelf A) (one : Changes change at old new) where
  pub kept : {B : Type 0} (f : MemoryFile A → B) → ((x : MemoryFile A) → f (change x) ≡ f x) → map f new.followers.items ≡ map f old.followers.items
  kept f same = ap (map f) one.slots ∙ map-set_same f old.followers.items at (change one.slot) one.slot (same one.slot ∙ ap f one.there)

  pub changed : {B : Type 0} (f : MemoryFile A → B) → map f new.followers.items ≡ set (map f old.followers.items) at (f (change one.slot))
  changed f = ap (map f) one.slots ∙ map-set f old.followers.items at (change one.slot)

  pub count : length new.followers.items ≡ length old.followers.items
  count = ap length one.slots ∙ length-set old.followers.items at (change one.slot)

  pub here : {B : Type 0} (f : MemoryFile A → B) (d : B) → at < length old.followers.items → get_or (map f old.followers.items) at d ≡ f one.slot
  here f d within = get_or-map f old.followers.items at one.slot d within ∙ ap f (sym one.there)

module _ {A : Type 0} (change : MemoryFile A → MemoryFile A) (at : ℕ) (old mid new : Shelf A) (within : Within old mid) (one : Changes change at mid new) where
  -- of what is known of each follower, one is another
  found_after : (f : MemoryFile A → Lying) (k : ℕ) → at < length mid.followers.items → IsFoundAt k old (get_or (map f mid.followers.items) k None) →
      ((x : MemoryFile A) → IsFound x (f (change x))) →
      SetOrSame (map f mid.followers.items) at (f (change one.slot)) k None → IsFoundAt k old (get_or (map f new.followers.items) k None)
  found_after f k bound was found (inl same) =
      subst (λ y. IsFoundAt k old y) (sym (ap (λ ys. get_or ys k None) (changed change at mid new one f) ∙ same)) was
  found_after f k bound was found (inr (here_k, is)) =
      let now : get_or (map f new.followers.items) k None ≡ f (change one.slot) = ap (λ ys. get_or ys k None) (changed change at mid new one f) ∙ is in
      let at_old : IsFoundAt k mid (f (change one.slot)) = subst (λ j. IsFoundAt j mid (f (change one.slot))) (sym here_k) (found_here (found one.slot)) in
      subst (λ y. IsFoundAt k old y) (sym now) (found_within k old mid (f (change one.slot)) within at_old)
    where
      found_here : IsFound one.slot (f (change one.slot)) → IsFoundAt at mid (f (change one.slot))
      found_here (inl e) = inl (e ∙ sym (here change at mid new one lies None bound))
      found_here (inr e) = inr (e ∙ sym (here change at mid new one left None bound))

  pub Within-step : at < length mid.followers.items → ((x : MemoryFile A) → IsFound x (lies (change x))) → ((x : MemoryFile A) → IsFound x (left (change x))) → Within old new
  Within-step bound lies_found left_found = record {
    file = λ x may. within.file x (subst (λ shelf. IsFound shelf.file x) one.same may);
    count = count change at mid new one ∙ within.count;
    lies = λ k. found_after lies k bound (within.lies k) lies_found (set_or_same (map lies mid.followers.items) at k (lies (change one.slot)) None);
    left = λ k. found_after left k bound (within.left k) left_found (set_or_same (map left mid.followers.items) at k (left (change one.slot)) None);
  }

-- a follower's draft takes its name: what is told of the place
pub state-placing : {A : Type 0} (at : ℕ) (old new : Shelf A) → Changes placing_slot at old new → at < length old.followers.items →
    state_of new ≡ placing_follower at (state_of old)
state-placing at old new one bound =
    let names = changed placing_slot at old new one lies ∙ ap (λ x. set (map lies old.followers.items) at (Some x)) (sym (here placing_slot at old new one draft_of [] bound)) in
    let waiting = kept placing_slot at old new one draft_of (λ x. refl) in
    let synced = kept placing_slot at old new one (λ x. x.is_synced) (λ x. refl) in
    let refused = kept placing_slot at old new one (λ x. x.is_refused) (λ x. refl) in
    let beside = changed placing_slot at old new one (λ x. x.has_draft) in
    rw (one.same, names, waiting, synced, refused, beside) refl

pub state-refusing : {A : Type 0} (at : ℕ) (old new : Shelf A) → Changes refusing_slot at old new → state_of new ≡ refusing_follower at (state_of old)
state-refusing at old new one =
    let names = kept refusing_slot at old new one lies (λ x. refl) in
    let waiting = kept refusing_slot at old new one draft_of (λ x. refl) in
    let synced = kept refusing_slot at old new one (λ x. x.is_synced) (λ x. refl) in
    let refused = changed refusing_slot at old new one (λ x. x.is_refused) in
    let beside = kept refusing_slot at old new one (λ x. x.has_draft) (λ x. refl) in
    rw (one.same, names, waiting, synced, refused, beside) refl

pub state-dropping : {A : Type 0} (at : ℕ) (old new : Shelf A) → Changes dropping_slot at old new → state_of new ≡ dropping_follower at (state_of old)
state-dropping at old new one =
    let names = kept dropping_slot at old new one lies (λ x. refl) in
    let waiting = kept dropping_slot at old new one draft_of (λ x. refl) in
    let synced = kept dropping_slot at old new one (λ x. x.is_synced) (λ x. refl) in
    let refused = kept dropping_slot at old new one (λ x. x.is_refused) (λ x. refl) in
    let beside = changed dropping_slot at old new one (λ x. x.has_draft) in
    rw (one.same, names, waiting, synced, refused, beside) refl

pub state-settling : {A : Type 0} (at : ℕ) (old new : Shelf A) → Changes settling_slot at old new → state_of new ≡ state_of old
state-settling at old new one =
    let names = kept settling_slot at old new one lies (λ x. refl) in
    let waiting = kept settling_slot at old new one draft_of (λ x. refl) in
    let synced = kept settling_slot at old new one (λ x. x.is_synced) (λ x. refl) in
    let refused = kept settling_slot at old new one (λ x. x.is_refused) (λ x. refl) in
    let beside = kept settling_slot at old new one (λ x. x.has_draft) (λ x. refl) in
    rw (one.same, names, waiting, synced, refused, beside) refl

pub state-syncing : {A : Type 0} (at : ℕ) (old new : Shelf A) → Changes syncing_slot at old new →
    state_of new ≡ record (state_of old) { synced = set (state_of old).synced at true }
state-syncing at old new one =
    let names = kept syncing_slot at old new one lies (λ x. refl) in
    let waiting = kept syncing_slot at old new one draft_of (λ x. refl) in
    let synced = changed syncing_slot at old new one (λ x. x.is_synced) in
    let refused = kept syncing_slot at old new one (λ x. x.is_refused) (λ x. refl) in
    let beside = kept syncing_slot at old new one (λ x. x.has_draft) (λ x. refl) in
    rw (one.same, names, waiting, synced, refused, beside) refl

-- a follower that is refused, and one whose draft was dropped: nothing else may be found
pub Within-refusing : {A : Type 0} (at : ℕ) (old mid new : Shelf A) → Within old mid → Changes refusing_slot at mid new → at < length mid.followers.items → Within old new
Within-refusing at old mid new within one bound = Within-step refusing_slot at old mid new within one bound (λ x. inl refl) (λ x. inr refl)

pub Within-dropping : {A : Type 0} (at : ℕ) (old mid new : Shelf A) → Within old mid → Changes dropping_slot at mid new → at < length mid.followers.items → Within old new
Within-dropping at old mid new within one bound = Within-step dropping_slot at old mid new within one bound (λ x. inl refl) (λ x. inr refl)

pub Within-syncing : {A : Type 0} (at : ℕ) (old mid new : Shelf A) → Within old mid → Changes syncing_slot at mid new → at < length mid.followers.items → Within old new
Within-syncing at old mid new within one bound = Within-step syncing_slot at old mid new within one bound (λ x. inl refl) (λ x. inr refl)

pub Within-settling : {A : Type 0} (at : ℕ) (old mid new : Shelf A) → Within old mid → Changes settling_slot at mid new → at < length mid.followers.items → Within old new
Within-settling at old mid new within one bound = Within-step settling_slot at old mid new within one bound (λ x. inl refl) (λ x. inl refl)

-- what a crash undoes
undone : {A : Type 0} (x : MemoryFile A) (placed settled : Bool) → x.is_placed ≡ placed → x.is_settled ≡ settled → lies (undoing_slot x) ≡ left x
undone x true true p s = rw (p, s) refl
undone x true false p s = rw (p, s) refl
undone x false true p s = rw (p, s) refl
undone x false false p s = rw (p, s) refl

pub undone_lies : {A : Type 0} (x : MemoryFile A) → lies (undoing_slot x) ≡ left x
undone_lies x = undone x x.is_placed x.is_settled refl refl

pub Within-undoing : {A : Type 0} (at : ℕ) (old mid new : Shelf A) → Within old mid → Changes undoing_slot at mid new → at < length mid.followers.items → Within old new
Within-undoing at old mid new within one bound = Within-step undoing_slot at old mid new within one bound (λ x. inr (undone_lies x)) (λ x. inr (undone_lies x))

placed : {A : Type 0} (slot : MemoryFile A) (x : Lying) (placed settled : Bool) → slot.is_placed ≡ placed → slot.is_settled ≡ settled →
    x ≡ left (placing_slot slot) → IsFound slot x ⊎ (x ≡ Some slot.draft.items)
placed slot x true true p s e = inr (e ∙ rw (p, s) refl)
placed slot x true false p s e = inl (inr (e ∙ rw (p, s) refl))
placed slot x false true p s e = inl (inl (e ∙ rw (p, s) refl))
placed slot x false false p s e = inl (inl (e ∙ rw (p, s) refl))

-- what may be found once the draft took the name: what might be found before, or the draft
found_placed : {A : Type 0} (slot : MemoryFile A) (x : Lying) → IsFound (placing_slot slot) x → IsFound slot x ⊎ (x ≡ Some slot.draft.items)
found_placed slot x (inl e) = inr e
found_placed slot x (inr e) = placed slot x slot.is_placed slot.is_settled refl refl e

module _ {A : Type 0} (old new : Shelf A) (file : new.file ≡ placing_slot old.file) (followers : new.followers ≡ old.followers) where
  as_before : (c d : Names) → d.followers ≡ c.followers → IsFound old.file d.file → may_be new c → may_be old d
  as_before c d same found may = record {
    file = found;
    number = ap length same ∙ may.number ∙ ap (λ v. length v.items) followers;
    each = λ k. subst (λ v. (follower k d ≡ get_or (map lies v.items) k None) ⊎ (follower k d ≡ get_or (map left v.items) k None)) followers
        (subst (λ ys. (get_or ys k None ≡ lies_at k new) ⊎ (get_or ys k None ≡ left_at k new)) (sym same) (may.each k));
  }

  file_placed : (c : Names) → may_be new c → IsFound old.file c.file ⊎ (c.file ≡ Some old.file.draft.items) →
      may_be old c ⊎ ((d : Names) × (text : List ℕ) × may_be old d × (old.file.is_synced ≡ true → text ≡ old.file.draft.items) × (c ≡ with_file text d))
  file_placed c may (inl found) = inl (as_before c c refl found may)
  file_placed c may (inr is) =
      inr (record c { file = lies old.file }, old.file.draft.items, as_before c (record c { file = lies old.file }) refl (inl refl) may, (λ _. refl), ap (λ x. record c { file = x }) is)

  -- the draft of the file, which the disk may have in part, takes the name
  pub Renames-placed : Renames with_file (may_be old) (λ text. old.file.is_synced ≡ true → text ≡ old.file.draft.items) (may_be new)
  Renames-placed = λ c may. file_placed c may (found_placed old.file c.file (subst (λ slot. IsFound slot c.file) file may.file))

module _ {A : Type 0} (at : ℕ) (old new : Shelf A) (one : Changes placing_slot at old new) (bound : at < length old.followers.items) where
  other : (f : MemoryFile A → Lying) (k : ℕ) → k ≢ at → get_or (map f new.followers.items) k None ≡ get_or (map f old.followers.items) k None
  other f k off = ap (λ ys. get_or ys k None) (changed placing_slot at old new one f) ∙ get_or-set_other (map f old.followers.items) at k (f (placing_slot one.slot)) None off

  this : (f : MemoryFile A → Lying) → get_or (map f new.followers.items) at None ≡ f (placing_slot one.slot)
  this f = ap (λ ys. get_or ys at None) (changed placing_slot at old new one f)
      ∙ get_or-set_same (map f old.followers.items) at (f (placing_slot one.slot)) None (omega (arith, bound, length-map old.followers.items f))

  found_here : (x : Lying) → IsFoundAt at new x → IsFound (placing_slot one.slot) x
  found_here x (inl e) = inl (e ∙ this lies)
  found_here x (inr e) = inr (e ∙ this left)

  found_old : (x : Lying) → IsFound one.slot x → IsFoundAt at old x
  found_old x (inl e) = inl (e ∙ sym (here placing_slot at old new one lies None bound))
  found_old x (inr e) = inr (e ∙ sym (here placing_slot at old new one left None bound))

  found_other : (k : ℕ) (x : Lying) → k ≢ at → IsFoundAt k new x → IsFoundAt k old x
  found_other k x off (inl e) = inl (e ∙ other lies k off)
  found_other k x off (inr e) = inr (e ∙ other left k off)

  same_file : new.file ≡ old.file
  same_file = ap (λ x. x.file) one.same

  -- the same names, but for this follower
  but_this : (c d : Names) → may_be new c → d.file ≡ c.file → length d.followers ≡ length c.followers →
      ((k : ℕ) → k ≢ at → follower k d ≡ follower k c) → IsFoundAt at old (follower at d) → may_be old d
  but_this c d may file long others found = record {
    file = subst (λ slot. IsFound slot d.file) same_file (subst (λ x. IsFound new.file x) (sym file) may.file);
    number = long ∙ may.number ∙ count placing_slot at old new one;
    each = λ k. by k (same_or_other k at);
  }
    where
      by : (k : ℕ) → (k ≡ at) ⊎ (k ≢ at) → IsFoundAt k old (follower k d)
      by k (inl e) = subst (λ j. IsFoundAt j old (follower j d)) (sym e) found
      by k (inr off) = found_other k (follower k d) off (subst (λ x. IsFoundAt k new x) (sym (others k off)) (may.each k))

  -- what lay there before
  abbrev before : Names → Names
  before c = record c { followers = set c.followers at (lies_at at old) }

  inside : (c : Names) → may_be new c → at < length c.followers
  inside c may = omega (arith, bound, may.number, count placing_slot at old new one)

  before_found : (c : Names) → may_be new c → may_be old (before c)
  before_found c may = but_this c (before c) may refl (length-set c.followers at (lies_at at old))
      (λ k off. get_or-set_other c.followers at k (lies_at at old) None off)
      (inl (get_or-set_same c.followers at (lies_at at old) None (inside c may)))

  restored : (c : Names) (text : List ℕ) → may_be new c → follower at c ≡ Some text → c.followers ≡ set (set c.followers at (lies_at at old)) at (Some text)
  restored c text may is = ext_get_or None c.followers (set (set c.followers at (lies_at at old)) at (Some text))
      (sym (length-set (set c.followers at (lies_at at old)) at (Some text) ∙ length-set c.followers at (lies_at at old)))
      (λ k below. by k (same_or_other k at))
    where
      long : at < length (set c.followers at (lies_at at old))
      long = omega (arith, inside c may, length-set c.followers at (lies_at at old))

      by : (k : ℕ) → (k ≡ at) ⊎ (k ≢ at) → get_or c.followers k None ≡ get_or (set (set c.followers at (lies_at at old)) at (Some text)) k None
      by k (inl e) = subst (λ j. get_or c.followers j None ≡ get_or (set (set c.followers at (lies_at at old)) at (Some text)) j None) (sym e)
          (is ∙ sym (get_or-set_same (set c.followers at (lies_at at old)) at (Some text) None long))
      by k (inr off) = sym (get_or-set_other (set c.followers at (lies_at at old)) at k (Some text) None off ∙ get_or-set_other c.followers at k (lies_at at old) None off)

  follower_placed : (c : Names) → may_be new c → IsFound one.slot (follower at c) ⊎ (follower at c ≡ Some one.slot.draft.items) →
      may_be old c ⊎ ((d : Names) × (text : List ℕ) × may_be old d × (IsSynced at (state_of old) → text ≡ waiting_text at (state_of old)) × (c ≡ with_follower at text d))
  follower_placed c may (inl found) = inl (but_this c c may refl refl (λ k off. refl) (found_old (follower at c) found))
  follower_placed c may (inr is) =
      inr (before c, one.slot.draft.items, before_found c may, (λ _. sym (here placing_slot at old new one draft_of [] bound)), ap (λ xs. record c { followers = xs }) (restored c one.slot.draft.items may is))

  -- a follower's draft takes its name
  pub Renames-follower : Renames (with_follower at) (may_be old) (λ text. IsSynced at (state_of old) → text ≡ waiting_text at (state_of old)) (may_be new)
  Renames-follower = λ c may. follower_placed c may (found_placed one.slot (follower at c) (found_here (follower at c) (may.each at)))

-- where nothing more may be found, nothing takes a name
pub Renames-stays : (change : List ℕ → Names → Names) (old : Names → Type 0) (draft : List ℕ → Type 0) (new : Names → Type 0) → Stays old new → Renames change old draft new
Renames-stays change old draft new stays = λ c may. inl (stays c may)
