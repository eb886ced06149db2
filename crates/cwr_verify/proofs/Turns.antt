-- Who waits under a key, by turns: by key, and then by file.
use Rattle.std.proofs.Common.{◌≡◌, ◌≢◌, ◌∙◌, ◌⊎◌, inl, inr, ℕ, ◌+◌, ◌<◌, ◌≤◌, Bool, true, false, List, [], ◌∷◌, length, set, Some, None, refl, sym, ap, subst, ⊎_elim, arith}
use Rattle.std.specs.Prelude.{◌↔◌, Option, option_and_then, option_map, slice_get}
use Rattle.std.specs.BTreeSet.{BTreeSet, contains, IsKeyRangeOf, Updates}
use Rattle.std.specs.BTreeMap.Range.{IsInRange}
use Rattle.std.specs.Cmp.{IsTotalOrder, nat_cmp_is}
use Rattle.std.specs.List.{list_any}
use Rattle.std.specs.Ordering.{nat_cmp, ordering_then, ordering_reverse, is_eq, is_gt}
use Rattle.std.specs.declared.cmp.Ordering.{Ordering}
use Rattle.std.specs.declared.cmp.Ordering.TheVariants.{Less, Equal, Greater}
use Rattle.std.specs.declared.ops.Bound.TheVariants.{Included, Excluded}
use Rattle.std.proofs.lemmas.Bool.{cases_eq, cases_lt}
use Rattle.std.proofs.lemmas.List.{length-set}
use Rattle.std.proofs.lemmas.Option.{slice_get_past, slice_get_within}
use Rattle.std.proofs.lemmas.Cmp.{by_ranked, ranked, tied_itself, nat_cmp_total, on_total, then_total}
use Rattle.std.proofs.lemmas.Map.Lookups.{CmpEqualImpliesEq, exact_unsigned, exact_pairs}
use Rattle.cwr_call.specs.CallValue.{CallValue}
use Rattle.work_registry.specs.EntryValue.{EntryValue}
use Rattle.cwr_verify.proofs.Lists.{slice_get-set_other, slice_get-set_same}
use Rattle.cwr_verify.specs.declared.waiting.Key.{Key}
use Rattle.cwr_verify.specs.declared.ack_status.AckStatus.{AckStatus}
use Rattle.cwr_verify.specs.Wanting.{Wanting, CanHaveMade, IsFirst, HasMovedOn, AreWaiting, NoneWaits, WaitsUnder, found_by, key_of, key_of_entry, next_key, next_of, key_cmp, turn_cmp}

-- ---- the order of turns

key_total : IsTotalOrder key_cmp
key_total =
    then_total (on_total (λ (k : Key). k.number_end) nat_cmp_total) (on_total (λ (k : Key). k.digest) nat_cmp_total)

turn_total : IsTotalOrder turn_cmp
turn_total = then_total (on_total (λ (t : Key × ℕ). t.0) key_total) (on_total (λ (t : Key × ℕ). t.1) nat_cmp_total)

exact_two : CmpEqualImpliesEq (λ (x y : ℕ × ℕ). ordering_then (nat_cmp x.0 y.0) (nat_cmp x.1 y.1))
exact_two = exact_pairs nat_cmp nat_cmp exact_unsigned exact_unsigned

abbrev key_with : ℕ × ℕ → Key
key_with t = record { number_end = t.0; digest = t.1 }

exact_key : CmpEqualImpliesEq key_cmp
exact_key x y same = ap key_with (exact_two (x.number_end, x.digest) (y.number_end, y.digest) same)

exact_turn : CmpEqualImpliesEq turn_cmp
exact_turn = exact_pairs key_cmp nat_cmp exact_key exact_unsigned

told_apart : (o : Ordering) → (o ≡ Equal) ⊎ (is_eq o ≡ false)
told_apart Less = inr refl
told_apart Equal = inl refl
told_apart Greater = inr refl

-- two turns are one, or are told apart
one_or_apart : (t u : Key × ℕ) → (t ≡ u) ⊎ (is_eq (turn_cmp t u) ≡ false)
one_or_apart t u =
    ⊎_elim (λ (same : turn_cmp t u ≡ Equal). inl (exact_turn t u same)) (λ (other : is_eq (turn_cmp t u) ≡ false). inr other) (told_apart (turn_cmp t u))

not_apart : (t u : Key × ℕ) → t ≡ u → is_eq (turn_cmp t u) ≡ false → ⊥
not_apart t u same other = let bad : true ≡ false = sym (ap is_eq (ap (turn_cmp t) (sym same) ∙ tied_itself turn_total t)) ∙ other in cc

-- the turns of two files are
apart : (t u : Key × ℕ) → t.1 ≢ u.1 → is_eq (turn_cmp t u) ≡ false
apart t u differs =
    ⊎_elim (λ (same : t ≡ u). absurd (differs (ap (λ (x : Key × ℕ). x.1) same))) (λ (other : is_eq (turn_cmp t u) ≡ false). other) (one_or_apart t u)

-- ---- the turns of one key

-- they go by file
under_key : (key : Key) (a b : ℕ) → turn_cmp (key, a) (key, b) ≡ nat_cmp a b
under_key key a b = ap (λ (o : Ordering). ordering_then o (nat_cmp a b)) (tied_itself key_total key)

not_above : (a b : ℕ) → a ≤ b → is_gt (nat_cmp a b) ≡ false
not_above a b le =
    by_ranked (a < b) (a ≡ b) (b < a) (nat_cmp a b) (ranked a b (nat_cmp a b) refl) (λ is _. ap is_gt is) (λ is _. ap is_gt is) (λ _ lt. absurd (omega (arith, lt, le)))

at_most : (a b : ℕ) → is_gt (nat_cmp a b) ≡ false → a ≤ b
at_most a b not =
    by_ranked (a < b) (a ≡ b) (b < a) (nat_cmp a b) (ranked a b (nat_cmp a b) refl) (λ _ lt. omega (arith, lt)) (λ _ same. omega (arith, same))
    (λ is _. absurd (let bad : true ≡ false = sym (ap is_gt is) ∙ not in cc))

pub forward : (key : Key) (from end : ℕ) → from ≤ end → is_gt (turn_cmp (key, from) (key, end)) ≡ false
forward key from end le = ap is_gt (under_key key from end) ∙ not_above from end le

-- between the turns of two files lie those of the files between them
within : (key : Key) (from end file : ℕ) → from ≤ file → file < end → IsInRange turn_cmp (Included (key, from)) (Excluded (key, end)) (key, file)
within key from end file past before = (forward key from file past, under_key key file end ∙ sym (nat_cmp_is file end Less before))

parts : (o p q : Ordering) → is_gt (ordering_then o p) ≡ false → ordering_then (ordering_reverse o) q ≡ Less → (o ≡ Equal) × (is_gt p ≡ false) × (q ≡ Less)
parts Less p q from before = absurd (let bad : Greater ≡ Less = before in cc)
parts Equal p q from before = (refl, from, before)
parts Greater p q from before = absurd (let bad : true ≡ false = from in cc)

-- and no others
between : (key : Key) (from end : ℕ) (t : Key × ℕ) → IsInRange turn_cmp (Included (key, from)) (Excluded (key, end)) t → (key ≡ t.0) × (from ≤ t.1) × (t.1 < end)
between key from end t is =
    let p = parts (key_cmp key t.0) (nat_cmp from t.1) (nat_cmp t.1 end) is.0
    (ap (λ (o : Ordering). ordering_then o (nat_cmp t.1 end)) (sym (key_total.antisymm t.0 key)) ∙ is.1) in
    (exact_key key t.0 p.0, at_most from t.1 p.1, ranked t.1 end Less (sym p.2))

pub none_waits : (key : Key) (from end : ℕ) (waiting : BTreeSet (Key × ℕ)) (turns : List (Key × ℕ))
    → IsKeyRangeOf turn_cmp (Included (key, from)) (Excluded (key, end)) waiting turns → turns ≡ [] → NoneWaits key from end waiting
none_waits key from end waiting turns range none = λ file past before. range.5 none (key, file) (within key from end file past before)

pub first_waits : (key : Key) (from end : ℕ) (waiting : BTreeSet (Key × ℕ)) (turns rest : List (Key × ℕ)) (t : Key × ℕ)
    → IsKeyRangeOf turn_cmp (Included (key, from)) (Excluded (key, end)) waiting turns → turns ≡ t ∷ rest → (from ≤ t.1) × (t.1 < end) × NoneWaits key from t.1 waiting
first_waits key from end waiting turns rest t all is =
    let range = subst (IsKeyRangeOf turn_cmp (Included (key, from)) (Excluded (key, end)) waiting) is all in
    let its = between key from end t range.1.0 in
    (its.1, its.2, λ file past before. go file past before (contains turn_cmp waiting (key, file)) refl) where
      go : (file : ℕ) → from ≤ file → file < t.1 → (b : Bool) → contains turn_cmp waiting (key, file) ≡ b → b ≡ false
      go file past before false has = refl
      go file past before true has =
          let range = subst (IsKeyRangeOf turn_cmp (Included (key, from)) (Excluded (key, end)) waiting) is all in
          let its = between key from end t range.1.0 in
          let least : is_gt (turn_cmp t (key, file)) ≡ false = range.2 (key, file) (within key from end file past (omega (arith, before, its.2))) has in
          let le : t.1 ≤ file = at_most t.1 file (sym (ap is_gt (ap (λ (k : Key). turn_cmp (k, t.1) (key, file)) (sym its.0) ∙ under_key key t.1 file)) ∙ least) in
          absurd (omega (arith, le, before))

-- ---- the first file that can have made an entry

-- its next transaction is looked up as the entry is
made_key : (w : Wanting) (e : EntryValue) → CanHaveMade w e → next_key w ≡ Some (key_of_entry e)
unfolding next_key
made_key w e made =
    ap (λ (o : Option CallValue). option_and_then (λ call. option_map (λ told. key_of told call) (slice_get w.told (length w.replied.replies))) o) made.call
    ∙ ap (λ (o : Option AckStatus). option_map (λ told. key_of told e.call) o) made.told

pub key_made : (all : List Wanting) (file : ℕ) (w : Wanting) (e : EntryValue) → slice_get all file ≡ Some w → CanHaveMade w e → next_of all file ≡ Some (key_of_entry e)
key_made all file w e is made = ap (option_and_then next_key) is ∙ made_key w e made

-- none of the files before this one can have made it
abbrev pub Refuse : List Wanting → EntryValue → ℕ → Type 0
Refuse all e end = (file : ℕ) (w : Wanting) → file < end → slice_get all file ≡ Some w → CanHaveMade w e → ⊥

pub refuse_to : (all : List Wanting) (waiting : BTreeSet (Key × ℕ)) (e : EntryValue) (key : Key) (from end : ℕ) → AreWaiting all waiting → key ≡ key_of_entry e
    → Refuse all e from → NoneWaits key from end waiting → Refuse all e end
refuse_to all waiting e key from end waits its so_far none file w lt is made =
    ⊎_elim
    (λ (before : file < from). so_far file w before is made)
    (λ (past : from ≤ file).
    let has : contains turn_cmp waiting (key, file) ≡ true = (waits file key).1 (key_made all file w e is made ∙ ap Some (sym its)) in
    let bad : true ≡ false = sym has ∙ none file past lt in cc)
    (cases_lt file from)

pub refuse_more : (all : List Wanting) (e : EntryValue) (end : ℕ) (here : Wanting) → slice_get all end ≡ Some here → (CanHaveMade here e → ⊥) → Refuse all e end → Refuse all e (end + 1)
refuse_more all e end here at not so_far file w lt is made =
    ⊎_elim
    (λ (before : file < end). so_far file w before is made)
    (λ (past : end ≤ file).
    let last : file ≡ end = omega (arith, lt, past) in
    let same : Some w ≡ Some here = sym is ∙ (ap (slice_get all) last ∙ at) in
    let one : w ≡ here = cc in
    not (subst (λ (x : Wanting). CanHaveMade x e) one made))
    (cases_lt file end)

pub first_here : (all : List Wanting) (e : EntryValue) (file : ℕ) (w : Wanting) → slice_get all file ≡ Some w → CanHaveMade w e → Refuse all e file → IsFirst all e file
first_here all e file w at made so_far = record {
  within = let lt = slice_get_within all file w at in omega (arith, lt);
  passed = so_far;
  made = λ x is.
      let same : Some w ≡ Some x = sym at ∙ is in
      let one : w ≡ x = cc in
      subst (λ (y : Wanting). CanHaveMade y e) one made;
}

pub first_none : (all : List Wanting) (e : EntryValue) → Refuse all e (length all) → IsFirst all e (length all)
first_none all e so_far = record {
  within = omega arith;
  passed = so_far;
  made = λ x is. absurd (let lt = slice_get_within all (length all) x is in omega (arith, lt));
}

-- ---- files that wait

-- another file has come, or left
others : (before after : BTreeSet (Key × ℕ)) (t : Key × ℕ) (b : Bool) (next : Option Key) (file : ℕ) → t.1 ≢ file → Updates turn_cmp before after t b
    → WaitsUnder next file before → WaitsUnder next file after
others before after t b next file other put waits key =
    subst (λ (has : Bool). (has ≡ true) ↔ (next ≡ Some key)) (sym (put.2 (key, file) (apart t (key, file) other))) (waits key)

leaves : (before after : BTreeSet (Key × ℕ)) (gone : Key) (file : ℕ) → Updates turn_cmp before after (gone, file) false
    → WaitsUnder (Some gone) file before → WaitsUnder None file after
leaves before after gone file removed waits key = (
  λ has.
      ⊎_elim
      (λ (same : (gone, file) ≡ (key, file)). absurd (let bad : true ≡ false = sym has ∙ (ap (contains turn_cmp after) (sym same) ∙ removed.1) in cc))
      (λ (other : is_eq (turn_cmp (gone, file) (key, file)) ≡ false).
      let its : Some gone ≡ Some key = (waits key).0 (sym (removed.2 (key, file) other) ∙ has) in
      let one : gone ≡ key = cc in
      absurd (not_apart (gone, file) (key, file) (λ i. (one i, file)) other))
      (one_or_apart (gone, file) (key, file)),
  λ is. absurd (let bad : None ≡ Some key = is in cc),
)

comes : (before after : BTreeSet (Key × ℕ)) (new : Key) (file : ℕ) → Updates turn_cmp before after (new, file) true
    → WaitsUnder None file before → WaitsUnder (Some new) file after
comes before after new file put waits key = (
  λ has.
      ⊎_elim
      (λ (same : (new, file) ≡ (key, file)). ap (λ (t : Key × ℕ). Some t.0) same)
      (λ (other : is_eq (turn_cmp (new, file) (key, file)) ≡ false).
      absurd (let bad : None ≡ Some key = (waits key).0 (sym (put.2 (key, file) other) ∙ has) in cc))
      (one_or_apart (new, file) (key, file)),
  λ is. let one : new ≡ key = cc in subst (λ (k : Key). contains turn_cmp after (k, file) ≡ true) one put.1,
)

-- the files below this one wait, and no others
pub record AreWaitingBelow (end : ℕ) (all : List Wanting) (waiting : BTreeSet (Key × ℕ)) : Type 0 where
  pub below : (file : ℕ) → file < end → WaitsUnder (next_of all file) file waiting
  pub rest : (file : ℕ) → end ≤ file → WaitsUnder None file waiting

pub nobody : (all : List Wanting) (waiting : BTreeSet (Key × ℕ)) → waiting.keys ≡ [] → AreWaitingBelow 0 all waiting
nobody all waiting none = record {
  below = λ file lt. absurd (omega (arith, lt));
  rest = λ file past key. (
    λ has. absurd (let bad : true ≡ false = sym has ∙ ap (list_any (λ (x : Key × ℕ). is_eq (turn_cmp (key, file) x))) none in cc),
    λ is. absurd (let bad : None ≡ Some key = is in cc),
  );
}

-- one file more
one_more : (end : ℕ) (all : List Wanting) (before after : BTreeSet (Key × ℕ)) → AreWaitingBelow end all before → WaitsUnder (next_of all end) end after
    → ((next : Option Key) (file : ℕ) → end ≢ file → WaitsUnder next file before → WaitsUnder next file after) → AreWaitingBelow (end + 1) all after
one_more end all before after so_far here stay = record {
  below = λ file lt.
      ⊎_elim
      (λ (same : file ≡ end). subst (λ (f : ℕ). WaitsUnder (next_of all f) f after) (sym same) here)
      (λ (other : file ≢ end). stay (next_of all file) file (λ same. other (sym same)) (so_far.below file (omega (arith, lt, other))))
      (cases_eq file end);
  rest = λ file past. stay None file (omega (arith, past)) (so_far.rest file (omega (arith, past)));
}

pub one_comes : (end : ℕ) (all : List Wanting) (before after : BTreeSet (Key × ℕ)) (key : Key) → next_of all end ≡ Some key → Updates turn_cmp before after (key, end) true
    → AreWaitingBelow end all before → AreWaitingBelow (end + 1) all after
one_comes end all before after key its put so_far =
    one_more end all before after so_far
    (subst (λ (o : Option Key). WaitsUnder o end after) (sym its) (comes before after key end put (so_far.rest end (omega arith))))
    (λ next file other. others before after (key, end) true next file other put)

pub none_comes : (end : ℕ) (all : List Wanting) (waiting : BTreeSet (Key × ℕ)) → next_of all end ≡ None → AreWaitingBelow end all waiting → AreWaitingBelow (end + 1) all waiting
none_comes end all waiting its so_far =
    one_more end all waiting waiting so_far (subst (λ (o : Option Key). WaitsUnder o end waiting) (sym its) (so_far.rest end (omega arith)))
    (λ next file other waits. waits)

pub all_wait : (end : ℕ) (all : List Wanting) (waiting : BTreeSet (Key × ℕ)) → length all ≤ end → AreWaitingBelow end all waiting → AreWaiting all waiting
all_wait end all waiting over so_far file =
    ⊎_elim
    (λ (lt : file < end). so_far.below file lt)
    (λ (past : end ≤ file). subst (λ (o : Option Key). WaitsUnder o file waiting) (sym (ap (option_and_then next_key) (slice_get_past all file (omega (arith, over, past))))) (so_far.rest file past))
    (cases_lt file end)

-- ---- a file that has moved on

pub moved_on : (all : List Wanting) (file : ℕ) (w next : Wanting) (e : EntryValue) → slice_get all file ≡ Some w → next ≡ found_by e w → HasMovedOn e all (set all file next) file
moved_on all file w next e is on = record {
  files = length-set all file next;
  others = λ other differs. slice_get-set_other all file other next differs;
  its = slice_get-set_same all file next (slice_get_within all file w is) ∙ (ap Some on ∙ sym (ap (option_map (found_by e)) is));
}

-- the number of the files is none of one
pub nobody_moved : (all : List Wanting) (e : EntryValue) → HasMovedOn e all all (length all)
nobody_moved all e =
    let past : slice_get all (length all) ≡ None = slice_get_past all (length all) (omega arith) in
    record { files = refl; others = λ other differs. refl; its = past ∙ sym (ap (option_map (found_by e)) past) }

-- it waits no more, and the others do as before
pub record AreWaitingBut (file : ℕ) (all : List Wanting) (waiting : BTreeSet (Key × ℕ)) : Type 0 where
  pub its : WaitsUnder None file waiting
  pub others : (other : ℕ) → other ≢ file → WaitsUnder (next_of all other) other waiting

pub one_leaves : (all now : List Wanting) (file : ℕ) (w : Wanting) (e : EntryValue) (key : Key) (before after : BTreeSet (Key × ℕ)) → HasMovedOn e all now file
    → slice_get all file ≡ Some w → CanHaveMade w e → key ≡ key_of_entry e → AreWaiting all before → Updates turn_cmp before after (key, file) false → AreWaitingBut file now after
one_leaves all now file w e key before after moved is made key_is waits removed = record {
  its = leaves before after key file removed
      (subst (λ (o : Option Key). WaitsUnder o file before) (key_made all file w e is made ∙ ap Some (sym key_is)) (waits file));
  others = λ other differs.
      subst (λ (o : Option Wanting). WaitsUnder (option_and_then next_key o) other after) (sym (moved.others other differs))
      (others before after (key, file) false (next_of all other) other (λ same. differs (sym same)) removed (waits other));
}

-- it waits again, under its next key, or has none
pub waits_again : (now : List Wanting) (file : ℕ) (before after : BTreeSet (Key × ℕ)) (key : Key) → next_of now file ≡ Some key → Updates turn_cmp before after (key, file) true
    → AreWaitingBut file now before → AreWaiting now after
waits_again now file before after key its put waits other =
    ⊎_elim
    (λ (same : other ≡ file).
    subst (λ (f : ℕ). WaitsUnder (next_of now f) f after) (sym same)
    (subst (λ (o : Option Key). WaitsUnder o file after) (sym its) (comes before after key file put waits.its)))
    (λ (differs : other ≢ file). others before after (key, file) true (next_of now other) other (λ same. differs (sym same)) put (waits.others other differs))
    (cases_eq other file)

pub waits_no_more : (now : List Wanting) (file : ℕ) (waiting : BTreeSet (Key × ℕ)) → next_of now file ≡ None → AreWaitingBut file now waiting → AreWaiting now waiting
waits_no_more now file waiting its waits other =
    ⊎_elim
    (λ (same : other ≡ file).
    subst (λ (f : ℕ). WaitsUnder (next_of now f) f waiting) (sym same) (subst (λ (o : Option Key). WaitsUnder o file waiting) (sym its) waits.its))
    (λ (differs : other ≢ file). waits.others other differs)
    (cases_eq other file)
