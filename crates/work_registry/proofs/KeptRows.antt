-- what is kept beside the history, after one more entry
use Rattle.std.proofs.Common.{◌≡◌, ◌≤◌, ◌<◌, IfSome, IsTrue, MatchOption, ℕ, ◌+◌, ◌-◌, ◌==◌, Bool, true, false, List, refl, sym, ap, ◌∙◌, arith, Option, Some, None, if◌then◌else◌, ◌++◌, ◌∷◌, [], count_by, add-zero, zero-add, eqb-true, eq-eqb, nat_eq, nat_lt, cond, length, slice_index_or, slice_set, slice_index, true≢false, ◌&&◌, append-nil}
use Rattle.std.specs.Option.{option_map, option_map_or, is_some}
use Rattle.std.specs.HashMap.{HashMap, get, Updates, IsUnchanged}
use Rattle.std.proofs.lemmas.Grind.{common_steps}
use Rattle.std.proofs.lemmas.List.{get_or-set_same, get_or-set_other}
use Rattle.std.proofs.lemmas.List.Sums.{sum_by-append, sum_by-cons}
use Rattle.work_registry.specs.declared.key.Key.{Key}
use Rattle.cwr_field.specs.Iswc.{max_code}
use Rattle.cwr_call.specs.CallValue.{CallValue}
use Rattle.cwr_call.specs.Lawful as lawful
use Rattle.work_registry.specs.declared.indexes.IndexedClaim.{IndexedClaim}
use Rattle.work_registry.specs.declared.indexes.IndexedWork.{IndexedWork}
use Rattle.work_registry.specs.declared.reply.Reply.{Reply}
use Rattle.work_registry.specs.declared.reply.Reply.TheVariants.{Accepted, Duplicate, Conflict, Rejected}
use Rattle.work_registry.specs.declared.indexes.Change.{Change}
use Rattle.work_registry.specs.Claims.{versions_of}
use Rattle.work_registry.specs.Indexes.{AreIndexes, change_of, indexed_claim, kept_from, indexed_work, written}
use Rattle.work_registry.specs.Reply.{reply_to}
use Rattle.work_registry.specs.Rows.{Row, key_of, last_of_key, last_such, or_else, row_of, rows_of_entry, same_key}
use Rattle.work_registry.specs.Works.{control_in, has_work, is_iswc, iswc_of, others_in, share_in, work_count, work_of_iswc}
use Rattle.work_registry.proofs.Keys.{same_key-true}
use Rattle.work_registry.proofs.OneMoreRow.{eq-sym, sum-current-split, sum-current-push, last_such-push, work_count-push, iswc_of-push, work_of_iswc-push}
use Rattle.work_registry.proofs.SoundRows.{IsSound, Takes, takes-from}

-- one more row, at a key
pub indexed_claim-push : (k : Key) (rows : List Row) (r : Row) →
    indexed_claim k (rows ++ r ∷ []) ≡ (if same_key r.key k then Some (kept_from (versions_of k rows + 1) r) else indexed_claim k rows)
indexed_claim-push k rows r = by (same_key r.key k) (last_such-push (λ x. same_key x.key k) rows r) more
  where
    more : versions_of k (rows ++ r ∷ []) ≡ versions_of k rows + (if same_key r.key k then 1 else 0)
    more = sum_by-append (λ x. if same_key x.key k then 1 else 0) rows (r ∷ []) ∙ ap (λ n. versions_of k rows + n) (zero-add (if same_key r.key k then 1 else 0))

    by : (b : Bool) → last_of_key k (rows ++ r ∷ []) ≡ (if b then Some r else last_of_key k rows) →
        versions_of k (rows ++ r ∷ []) ≡ versions_of k rows + (if b then 1 else 0) →
        indexed_claim k (rows ++ r ∷ []) ≡ (if b then Some (kept_from (versions_of k rows + 1) r) else indexed_claim k rows)
    by true p q = rw (p, q) refl
    by false p q = rw (p, q, add-zero) refl

-- a row changes nothing of another work
pub control-other : (i w : ℕ) (rows : List Row) (r : Row) → Takes rows r → (r.work == w) ≡ false → control_in i w (rows ++ r ∷ []) ≡ control_in i w rows
control-other i w rows r t e = by (last_of_key r.key rows) refl (sum-current-split (share_in i w) r.key rows)
  where
    own : share_in i w r ≡ 0
    own = ap (λ b. if b then slice_index r.control i else 0) e

    grown : control_in i w (rows ++ r ∷ []) ≡ others_in i w r.key rows + share_in i w r
    grown = sum-current-push (share_in i w) rows r

    by : (o : Option Row) → last_of_key r.key rows ≡ o → control_in i w rows ≡ others_in i w r.key rows + option_map_or (share_in i w) o 0 → control_in i w (rows ++ r ∷ []) ≡ control_in i w rows
    by None p s = omega (arith, own, grown, s)
    by (Some q) p s =
        let f : (q.work == w) ≡ false = ap (λ n. n == w) (t.mine q p) ∙ e in
        let none : share_in i w q ≡ 0 = ap (λ b. if b then slice_index q.control i else 0) f in
        omega (arith, own, grown, s, none)

pub indexed_work-other : (w : ℕ) (rows : List Row) (r : Row) → Takes rows r → (r.work == w) ≡ false → indexed_work w (rows ++ r ∷ []) ≡ indexed_work w rows
indexed_work-other w rows r t e =
    let named : iswc_of w (rows ++ r ∷ []) ≡ iswc_of w rows = iswc_of-push w rows r ∙ ap (λ b. if b && is_some r.iswc then r.iswc else iswc_of w rows) e in
    rw (named, control-other 0 w rows r t e, control-other 1 w rows r t e, control-other 2 w rows r t e) refl

-- where a row's work stands among the works
pub place-old : (rows : List Row) (r : Row) → IsSound rows → Takes rows r → (n : ℕ) → n ≡ work_count rows → nat_lt (r.work - 1) n ≡ true → (has_work r.work rows ≡ true)
place-old rows r s t n e l = by (has_work r.work rows) refl
  where
    lt : r.work - 1 < n
    lt = grind (arith, common_steps)

    by : (b : Bool) → has_work r.work rows ≡ b → b ≡ true
    by true h = refl
    by false h = let p = t.place h in absurd (omega (arith, lt, p, e))

pub place-new : (rows : List Row) (r : Row) → IsSound rows → Takes rows r → (n : ℕ) → n ≡ work_count rows → nat_lt (r.work - 1) n ≡ false → (has_work r.work rows ≡ false)
place-new rows r s t n e l = by (has_work r.work rows) refl
  where
    le : n ≤ r.work - 1
    le = grind (arith, common_steps)

    by : (b : Bool) → has_work r.work rows ≡ b → b ≡ false
    by false h = refl
    by true h = let p = s.numbered r.work h in absurd (omega (arith, le, p.0, p.1, e))

pub place-positive : (rows : List Row) (r : Row) → IsSound rows → Takes rows r → 1 ≤ r.work
place-positive rows r s t = by (has_work r.work rows) refl
  where
    by : (b : Bool) → has_work r.work rows ≡ b → 1 ≤ r.work
    by true h = (s.numbered r.work h).0
    by false h = let p = t.place h in omega arith

pub works-push : (rows : List Row) (r : Row) (works : List IndexedWork) → IsSound rows → Takes rows r → length works ≡ work_count rows →
    ((w : ℕ) (d : IndexedWork) → w < length works → slice_index_or works w d ≡ indexed_work (w + 1) rows) →
    (length (written r.work (indexed_work r.work (rows ++ r ∷ [])) works) ≡ work_count (rows ++ r ∷ []))
    × ((w : ℕ) (d : IndexedWork) → w < length (written r.work (indexed_work r.work (rows ++ r ∷ [])) works) →
    slice_index_or (written r.work (indexed_work r.work (rows ++ r ∷ [])) works) w d ≡ indexed_work (w + 1) (rows ++ r ∷ []))
works-push rows r works s t count old = by (nat_lt (r.work - 1) (length works)) refl
  where
    positive : 1 ≤ r.work
    positive = place-positive rows r s t

    next : IndexedWork
    next = indexed_work r.work (rows ++ r ∷ [])

    same : (w : ℕ) → w + 1 ≡ r.work → next ≡ indexed_work (w + 1) (rows ++ r ∷ [])
    same w e = ap (λ n. indexed_work n (rows ++ r ∷ [])) (sym e)

    other : (w : ℕ) (d : IndexedWork) → w < length works → (r.work == (w + 1)) ≡ false → slice_index_or works w d ≡ indexed_work (w + 1) (rows ++ r ∷ [])
    other w d lt e = old w d lt ∙ sym (indexed_work-other (w + 1) rows r t e)

    by : (b : Bool) → nat_lt (r.work - 1) (length works) ≡ b →
        (length (if b then slice_set works (r.work - 1) next else works ++ next ∷ []) ≡ work_count (rows ++ r ∷ []))
        × ((w : ℕ) (d : IndexedWork) → w < length (if b then slice_set works (r.work - 1) next else works ++ next ∷ []) →
        slice_index_or (if b then slice_set works (r.work - 1) next else works ++ next ∷ []) w d ≡ indexed_work (w + 1) (rows ++ r ∷ []))
    by true e =
        let there : has_work r.work rows ≡ true = place-old rows r s t (length works) count e in
        let grown : work_count (rows ++ r ∷ []) ≡ work_count rows + 0 = work_count-push rows r ∙ ap (λ b. work_count rows + (if b then 0 else 1)) there in
        let lt : r.work - 1 < length works = grind (arith, common_steps) in
        let len : length (slice_set works (r.work - 1) next) ≡ length works = grind (arith, common_steps) in (
          omega (arith, len, grown, count),
          λ w d l. (let l' : w < length works = omega (arith, l, len) in here lt w d l' (r.work == (w + 1)) refl),
        )
      where
        here : r.work - 1 < length works → (w : ℕ) (d : IndexedWork) → w < length works → (b : Bool) → (r.work == (w + 1)) ≡ b → slice_index_or (slice_set works (r.work - 1) next) w d ≡ indexed_work (w + 1) (rows ++ r ∷ [])
        here lt w d l true f =
            let e : r.work ≡ w + 1 = eqb-true _ _ f in
            let at : r.work - 1 ≡ w = omega arith in
            let got : slice_index_or (slice_set works (r.work - 1) next) (r.work - 1) d ≡ next = get_or-set_same works (r.work - 1) next d lt in
            ap (λ n. slice_index_or (slice_set works (r.work - 1) next) n d) (sym at) ∙ got ∙ same w (sym e)
        here lt w d l false f =
            let ne : w ≡ r.work - 1 → (let b : Bool = true in b ≡ false) = (λ e. (let e' : r.work ≡ w + 1 = omega (arith, positive, e) in sym (eq-eqb _ _ e') ∙ f)) in
            get_or-set_other works (r.work - 1) w next d (λ e. absurd (true≢false (ne e))) ∙ other w d l f
    by false e =
        let none : has_work r.work rows ≡ false = place-new rows r s t (length works) count e in
        let grown : work_count (rows ++ r ∷ []) ≡ work_count rows + 1 = work_count-push rows r ∙ ap (λ b. work_count rows + (if b then 0 else 1)) none in
        let place = t.place none in
        let len : length (works ++ next ∷ []) ≡ length works + 1 = grind (arith, common_steps) in (
          omega (arith, len, grown, count),
          λ w d l. (let l' : w < length works + 1 = omega (arith, l, len) in here place w d l' (nat_lt w (length works)) refl),
        )
      where
        here : r.work ≡ work_count rows + 1 → (w : ℕ) (d : IndexedWork) → w < length works + 1 → (b : Bool) → nat_lt w (length works) ≡ b → slice_index_or (works ++ next ∷ []) w d ≡ indexed_work (w + 1) (rows ++ r ∷ [])
        here place w d l true f =
            let lt : w < length works = grind (arith, common_steps) in
            let got : slice_index_or (works ++ next ∷ []) w d ≡ slice_index_or works w d = grind (arith, common_steps) in
            let ne : (r.work == (w + 1)) ≡ false = grind (arith, common_steps) in
            got ∙ other w d lt ne
        here place w d l false f =
            let ge : length works ≤ w = grind (arith, common_steps) in
            let at : w ≡ length works = omega arith in
            let got : slice_index_or (works ++ next ∷ []) w d ≡ next = grind (arith, common_steps) in
            got ∙ same w (omega (arith, place, at, count))

pub named-push : (rows : List Row) (r : Row) (old new : ℕ → Option ℕ) → ((i : ℕ) → old i ≡ work_of_iswc i rows) →
    MatchOption r.iswc ((i : ℕ) → new i ≡ old i) (λ j. (i : ℕ) → new i ≡ cond (nat_eq j i) (Some r.work) (old i)) →
    (i : ℕ) → new i ≡ work_of_iswc i (rows ++ r ∷ [])
named-push rows r old new kept step i = by r.iswc step ∙ sym (work_of_iswc-push i rows r)
  where
    by : (o : Option ℕ) → MatchOption o ((i : ℕ) → new i ≡ old i) (λ j. (i : ℕ) → new i ≡ cond (nat_eq j i) (Some r.work) (old i)) →
        new i ≡ (if is_iswc i o then Some r.work else work_of_iswc i rows)
    by None h = h i ∙ kept i
    by (Some j) h = h i ∙ ap (λ b. cond b (Some r.work) (old i)) (eq-sym j i) ∙ ap (λ o. if i == j then Some r.work else o) (kept i)

-- a row of a call has an ISWC of nine digits, or none
pub nine_digits-push : (rows : List Row) (r : Row) → IsTrue (lawful.is_iswc r.iswc) → ((i : ℕ) → max_code < i → work_of_iswc i rows ≡ None) →
    (i : ℕ) → max_code < i → work_of_iswc i (rows ++ r ∷ []) ≡ None
nine_digits-push rows r few old i lt = work_of_iswc-push i rows r ∙ by r.iswc few
  where
    by : (o : Option ℕ) → IsTrue (lawful.is_iswc o) → (if is_iswc i o then Some r.work else work_of_iswc i rows) ≡ None
    by None h = old i lt
    by (Some j) h =
        let le : j ≤ max_code = grind (arith, common_steps) in
        let apart : (i == j) ≡ false = grind (arith, common_steps) in
        ap (λ b. if b then Some r.work else work_of_iswc i rows) apart ∙ old i lt

pub claims-push : (rows : List Row) (r : Row) (old new : Key → Option IndexedClaim) → ((k : Key) → old k ≡ indexed_claim k rows) →
    ((k : Key) → new k ≡ cond (same_key r.key k) (Some (kept_from (versions_of r.key rows + 1) r)) (old k)) →
    (k : Key) → new k ≡ indexed_claim k (rows ++ r ∷ [])
claims-push rows r old new kept step k = step k ∙ by (same_key r.key k) refl ∙ sym (indexed_claim-push k rows r)
  where
    by : (b : Bool) → same_key r.key k ≡ b →
        cond b (Some (kept_from (versions_of r.key rows + 1) r)) (old k)
        ≡ (if b then Some (kept_from (versions_of k rows + 1) r) else indexed_claim k rows)
    by true e = ap (λ n. Some (kept_from (versions_of n rows + 1) r)) (same_key-true _ _ e)
    by false e = kept k

-- what is kept after one more entry, from what the maps and the list say of the write
pub indexes-step : {S T : Type 0} (rows : List Row) (call : CallValue) (reply : Reply) (step : Option Change)
    (old_claims new_claims : HashMap Key IndexedClaim S) (old_iswcs new_iswcs : HashMap ℕ ℕ T) (old_works new_works : List IndexedWork) →
    IsSound rows → IsTrue (lawful.is_iswc call.iswc) → reply ≡ reply_to rows call → step ≡ change_of rows call reply →
    AreIndexes rows (get same_key old_claims) (get nat_eq old_iswcs) old_works →
    MatchOption step (IsUnchanged old_claims new_claims) (λ s. Updates same_key old_claims new_claims (key_of call) (Some s.claim)) →
    MatchOption step (IsUnchanged old_iswcs new_iswcs) (λ s. MatchOption call.iswc (IsUnchanged old_iswcs new_iswcs) (λ i. Updates nat_eq old_iswcs new_iswcs i (Some s.claim.work))) →
    MatchOption step (new_works ≡ old_works) (λ s. new_works ≡ written s.claim.work s.work old_works) →
    AreIndexes (rows ++ rows_of_entry call reply) (get same_key new_claims) (get nat_eq new_iswcs) new_works
indexes-step {S} {T} rows call reply step oc nc oi ni ow nw sound few is e kept claims iswcs works = by reply is e
  where
    same : (nc.entries ≡ oc.entries) → (ni.entries ≡ oi.entries) → nw ≡ ow → AreIndexes (rows ++ []) (get same_key nc) (get nat_eq ni) nw
    same p q r = rw (append-nil rows, p, q, r) kept

    iswcs' : (w : ℕ) (o : Option ℕ) → MatchOption o (IsUnchanged oi ni) (λ i. Updates nat_eq oi ni i (Some w)) →
        MatchOption o ((i : ℕ) → get nat_eq ni i ≡ get nat_eq oi i) (λ j. (i : ℕ) → get nat_eq ni i ≡ cond (nat_eq j i) (Some w) (get nat_eq oi i))
    iswcs' w None h = (λ i. rw h refl)
    iswcs' w (Some j) h = h.0

    taken : (w v : ℕ) → Accepted w v ≡ reply_to rows call → step ≡ change_of rows call (Accepted w v) →
        AreIndexes (rows ++ row_of call w ∷ []) (get same_key nc) (get nat_eq ni) nw
    taken w v is e =
        let t = takes-from rows call w v sound (sym is) in
        let c = rw e at claims in
        let i = rw e at iswcs in
        let k = rw e at works in
        let both = works-push rows (row_of call w) ow sound t.0 kept.count kept.work in
        record {
          claim = claims-push rows (row_of call w) (get same_key oc) (get same_key nc) kept.claim (rw (← t.1) c.0);
          named = named-push rows (row_of call w) (get nat_eq oi) (get nat_eq ni) kept.named (iswcs' w call.iswc i);
          nine_digits = nine_digits-push rows (row_of call w) few kept.nine_digits;
          count = rw k both.0;
          work = rw k both.1;
        }

    by : (r : Reply) → r ≡ reply_to rows call → step ≡ change_of rows call r → AreIndexes (rows ++ rows_of_entry call r) (get same_key nc) (get nat_eq ni) nw
    by (Accepted w v) is e = taken w v is e
    by (Duplicate w) is e = same (rw e at claims) (rw e at iswcs) (rw e at works)
    by (Conflict w) is e = same (rw e at claims) (rw e at iswcs) (rw e at works)
    by Rejected is e = same (rw e at claims) (rw e at iswcs) (rw e at works)

-- the control of the other keys of a work, from that of the work and what is kept of the key
pub control-none_of_key : (i w : ℕ) (k : Key) (rows : List Row) → None ≡ indexed_claim k rows → control_in i w rows ≡ others_in i w k rows
control-none_of_key i w k rows e = by (last_of_key k rows) refl e
  where
    by : (o : Option Row) → last_of_key k rows ≡ o → (let n : Option IndexedClaim = None in n ≡ option_map (kept_from (versions_of k rows)) o) → control_in i w rows ≡ others_in i w k rows
    by None p e = omega (arith, sum-current-split (share_in i w) k rows, ap (λ o. option_map_or (share_in i w) o 0) p)
    by (Some r) p e = absurd (cc)

pub control-some_of_key : (i w : ℕ) (k : Key) (rows : List Row) (c : IndexedClaim) → Some c ≡ indexed_claim k rows →
    control_in i w rows ≡ others_in i w k rows + (if c.work == w then slice_index c.control i else 0)
control-some_of_key i w k rows c e = by (last_of_key k rows) refl e
  where
    by : (o : Option Row) → last_of_key k rows ≡ o → Some c ≡ option_map (kept_from (versions_of k rows)) o →
        control_in i w rows ≡ others_in i w k rows + (if c.work == w then slice_index c.control i else 0)
    by None p e = absurd (cc)
    by (Some r) p e =
        let same : c ≡ kept_from (versions_of k rows) r = cc in
        rw same (sum-current-split (share_in i w) k rows ∙ ap (λ o. others_in i w k rows + option_map_or (share_in i w) o 0) p)

pub versions_some : (k : Key) (rows : List Row) (c : IndexedClaim) → Some c ≡ indexed_claim k rows → c.version ≡ versions_of k rows
versions_some k rows c e = by (last_of_key k rows) e
  where
    by : (o : Option Row) → Some c ≡ option_map (kept_from (versions_of k rows)) o → c.version ≡ versions_of k rows
    by None e = absurd (cc)
    by (Some r) e = let same : c ≡ kept_from (versions_of k rows) r = cc in ap (λ x. x.version) same

pub count_none : (p : Row → Bool) (xs : List Row) → last_such p xs ≡ None → count_by p xs ≡ 0
count_none p [] e = refl
count_none p (x ∷ xs) e = by (count_none p xs) (last_such p xs) refl (p x) refl e
  where
    by : (last_such p xs ≡ None → count_by p xs ≡ 0) → (o : Option Row) → last_such p xs ≡ o → (b : Bool) → p x ≡ b → or_else o (if b then Some x else None) ≡ None → count_by p (x ∷ xs) ≡ 0
    by rest (Some y) q b f e = absurd (cc)
    by rest None q true f e = absurd (cc)
    by rest None q false f e =
        let own : (let n : ℕ = if p x then 1 else 0 in n ≡ 0) = ap (λ b. if b then 1 else 0) f in
        omega (arith, own, sum_by-cons (λ x. if p x then 1 else 0) x xs, rest q)

pub versions_none : (k : Key) (rows : List Row) → None ≡ indexed_claim k rows → versions_of k rows ≡ 0
versions_none k rows e = by (last_of_key k rows) refl e
  where
    by : (o : Option Row) → last_of_key k rows ≡ o → (let n : Option IndexedClaim = None in n ≡ option_map (kept_from (versions_of k rows)) o) → versions_of k rows ≡ 0
    by None q e = count_none (λ r. same_key r.key k) rows q
    by (Some r) q e = absurd (cc)

-- making room changes nothing
pub indexes-room : {S T : Type 0} (rows : List Row) (a a' : HashMap Key IndexedClaim S) (b b' : HashMap ℕ ℕ T) (w w' : List IndexedWork) →
    AreIndexes rows (get same_key a) (get nat_eq b) w → IsUnchanged a a' → IsUnchanged b b' → w' ≡ w → AreIndexes rows (get same_key a') (get nat_eq b') w'
indexes-room rows a a' b b' w w' kept p q r = rw (p, q, r) kept

pub step-place : (rows : List Row) (call : CallValue) (reply : Reply) (step : Option Change) → IsSound rows → reply ≡ reply_to rows call → step ≡ change_of rows call reply →
    IfSome step (λ s. 1 ≤ s.claim.work)
step-place rows call (Accepted w v) step s is e = rw e (place-positive rows (row_of call w) s (takes-from rows call w v s (sym is)).0)
step-place rows call (Duplicate w) step s is e = rw e tt
step-place rows call (Conflict w) step s is e = rw e tt
step-place rows call Rejected step s is e = rw e tt
