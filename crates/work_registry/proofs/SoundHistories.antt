-- what holds of the rows of every history of one registry
use Rattle.std.proofs.Common.{◌≡◌, ◌≤◌, ◌<◌, ℕ, ◌+◌, ◌==◌, Bool, true, false, List, [], ◌∷◌, ◌++◌, length, refl, sym, ap, ◌∙◌, arith, Option, Some, None, append_assoc, append-nil, eq-eqb, unwrap_or, ◌&&◌, eqb-true, zero, suc, take, slice_index_or, slice_index, sum_by, if◌then◌else◌, true≢false}
use Rattle.std.specs.List.{list_any}
use Rattle.std.proofs.lemmas.List.Sums.{sum_by-cons, count_by-le-length}
use Rattle.std.specs.Option.{option_map, is_some}
use Rattle.work_registry.specs.declared.key.Key.{Key}
use Rattle.cwr_call.specs.declared.transaction_fault.Fault.{Fault}
use Rattle.work_registry.specs.declared.indexes.IndexedClaim.{IndexedClaim}
use Rattle.work_registry.specs.declared.indexes.IndexedWork.{IndexedWork}
use Rattle.work_registry.specs.declared.indexes.Change.{Change}
use Rattle.cwr_record.specs.declared.works.WorkKind.{WorkKind}
use Rattle.cwr_record.specs.declared.works.WorkKind.TheVariants.{Nwr, Rev}
use Rattle.cwr_call.specs.CallValue.{CallValue}
use Rattle.work_registry.specs.EntryValue.{EntryValue}
use Rattle.work_registry.specs.declared.reply.Reply.{Reply}
use Rattle.work_registry.specs.declared.reply.Reply.TheVariants.{Accepted, Duplicate, Conflict, Rejected}
use Rattle.work_registry.specs.Claims.{versions_of}
use Rattle.work_registry.specs.History.{IsHistory, IsNamedOnce, KeepsNames}
use Rattle.work_registry.specs.Indexes.{change_of, indexed_claim, kept_from, indexed_work, newer}
use Rattle.work_registry.specs.Numbers.{IsNumbered, max_entries}
use Rattle.work_registry.specs.Reply.{clashes, is_over, max_control, reply_after, reply_after_row, reply_for_work, reply_to, reply_unless, work_for}
use Rattle.work_registry.specs.Rows.{Row, current, key_of, last_of_key, row_of, rows_of, rows_of_entry, same_key}
use Rattle.work_registry.specs.Works.{control_in, has_work, iswc_of, others_in, share_in, work_count, work_of_iswc}
use Rattle.work_registry.proofs.OneMoreRow.{work_count-le, sum-current-split, sum-current-push, iswc_of-push}
use Rattle.work_registry.proofs.SoundRows.{IsSound, takes-from, sound-push, keeps-push, iswc-none, work-of-named, work-of-key}
use Rattle.cwr_field.proofs.lemmas.Tests.{neither}

pub rows_of-append : (g h : List EntryValue) → rows_of (g ++ h) ≡ rows_of g ++ rows_of h
rows_of-append [] h = refl
rows_of-append (e ∷ es) h = ap (λ rs. rows_of_entry e.call e.reply ++ rs) (rows_of-append es h) ∙ sym (append_assoc (rows_of_entry e.call e.reply) (rows_of es) (rows_of h))

pub rows_of-push : (h : List EntryValue) (e : EntryValue) → rows_of (h ++ e ∷ []) ≡ rows_of h ++ rows_of_entry e.call e.reply
rows_of-push h e = rows_of-append h (e ∷ []) ∙ ap (λ rs. rows_of h ++ rs) (append-nil (rows_of_entry e.call e.reply))

pub rows_of-le : (h : List EntryValue) → length (rows_of h) ≤ length h
rows_of-le [] = omega arith
rows_of-le (e ∷ es) = by e.reply (rows_of-le es)
  where
    by : (r : Reply) → length (rows_of es) ≤ length es → length (rows_of_entry e.call r ++ rows_of es) ≤ length (e ∷ es)
    by (Accepted w v) h = omega arith
    by (Duplicate w) h = omega arith
    by (Conflict w) h = omega arith
    by Rejected h = omega arith

pub sound-none : IsSound []
sound-none = record { small = (λ i w lt. omega arith); numbered = (λ w e. absurd (true≢false (sym e))); agrees = (λ i w. ((λ e. absurd (cc)), (λ e. absurd (cc)))) }

pub sound-step : (rows : List Row) (call : CallValue) (reply : Reply) → IsSound rows → reply ≡ reply_to rows call → IsSound (rows ++ rows_of_entry call reply)
sound-step rows call (Accepted w v) s e = sound-push rows (row_of call w) s (takes-from rows call w v s (sym e)).0
sound-step rows call (Duplicate w) s e = rw (append-nil rows) s
sound-step rows call (Conflict w) s e = rw (append-nil rows) s
sound-step rows call Rejected s e = rw (append-nil rows) s

pub keeps-step : (rows : List Row) (call : CallValue) (reply : Reply) → IsSound rows → reply ≡ reply_to rows call → KeepsNames rows (rows ++ rows_of_entry call reply)
keeps-step rows call (Accepted w v) s e = keeps-push rows (row_of call w) (takes-from rows call w v s (sym e)).0
keeps-step rows call (Duplicate w) s e = rw (append-nil rows) (λ w i h. h)
keeps-step rows call (Conflict w) s e = rw (append-nil rows) (λ w i h. h)
keeps-step rows call Rejected s e = rw (append-nil rows) (λ w i h. h)

-- each entry has the reply to its call after these rows and those of the entries before it
abbrev pub Follows : List Row → List EntryValue → Type 0
Follows rows h = (j : ℕ) (d : EntryValue) → j < length h → (slice_index_or h j d).reply ≡ reply_to (rows ++ rows_of (take j h)) (slice_index_or h j d).call

pub follows-first : (rows : List Row) (e : EntryValue) (es : List EntryValue) → Follows rows (e ∷ es) → e.reply ≡ reply_to rows e.call
follows-first rows e es f =
    let h : e.reply ≡ reply_to (rows ++ []) e.call = f 0 e (omega arith) in
    rw (append-nil rows) at h

pub follows-rest : (rows : List Row) (e : EntryValue) (es : List EntryValue) → Follows rows (e ∷ es) → Follows (rows ++ rows_of_entry e.call e.reply) es
follows-rest rows e es f j d lt =
    let h : (slice_index_or es j d).reply ≡ reply_to (rows ++ (rows_of_entry e.call e.reply ++ rows_of (take j es))) (slice_index_or es j d).call = f (suc j) d (omega arith) in
    rw (append_assoc rows (rows_of_entry e.call e.reply) (rows_of (take j es))) h

pub sound-from : (h : List EntryValue) (rows : List Row) → IsSound rows → Follows rows h → IsSound (rows ++ rows_of h)
sound-from [] rows s f = rw (append-nil rows) s
sound-from (e ∷ es) rows s f =
    rw (← append_assoc rows (rows_of_entry e.call e.reply) (rows_of es)) (sound-from es (rows ++ rows_of_entry e.call e.reply) (sound-step rows e.call e.reply s (follows-first rows e es f)) (follows-rest rows e es f))

pub sound : (h : List EntryValue) → IsHistory h → IsSound (rows_of h)
sound h f = sound-from h [] sound-none f

-- later entries let each work keep its ISWC
pub keeps-from : (h : List EntryValue) (rows : List Row) → IsSound rows → Follows rows h → KeepsNames rows (rows ++ rows_of h)
keeps-from [] rows s f = rw (append-nil rows) (λ w i h. h)
keeps-from (e ∷ es) rows s f =
    rw (← append_assoc rows (rows_of_entry e.call e.reply) (rows_of es)) (λ w i h.
    keeps-from es (rows ++ rows_of_entry e.call e.reply) (sound-step rows e.call e.reply s (follows-first rows e es f)) (follows-rest rows e es f) w i
    (keeps-step rows e.call e.reply s (follows-first rows e es f) w i h))

pub named_once : (rows : List Row) → IsSound rows → IsNamedOnce rows
named_once rows s a b i x y = let p : Some a ≡ Some b = sym ((s.agrees i a).1 x) ∙ (s.agrees i b).1 y in cc

-- one more entry
pub history-push : (h : List EntryValue) (e : EntryValue) → IsHistory h → e.reply ≡ reply_to (rows_of h) e.call → IsHistory (h ++ e ∷ [])
history-push h e f r = by h [] f r
  where
    by : (h : List EntryValue) (rows : List Row) → Follows rows h → e.reply ≡ reply_to (rows ++ rows_of h) e.call → Follows rows (h ++ e ∷ [])
    by [] rows f r zero d lt = r
    by [] rows f r (suc j) d lt = absurd (omega arith)
    by (x ∷ xs) rows f r zero d lt = f zero d (omega arith)
    by (x ∷ xs) rows f r (suc j) d lt =
        rw (← append_assoc rows (rows_of_entry x.call x.reply) (rows_of (take j (xs ++ e ∷ []))))
        (by xs (rows ++ rows_of_entry x.call x.reply) (follows-rest rows x xs f) (rw (append_assoc rows (rows_of_entry x.call x.reply) (rows_of xs)) r) j d (omega arith))

pub history-none : IsHistory []
history-none j d lt = absurd (omega arith)

-- a work with no row has no control
pub control-none : (i w : ℕ) (rows : List Row) → has_work w rows ≡ false → control_in i w rows ≡ 0
control-none i w [] e = refl
control-none i w (r ∷ rs) e = by (neither (r.work == w) (has_work w rs) e) (control-none i w rs) (list_any (λ q. same_key q.key r.key) rs)
  where
    by : ((r.work == w) ≡ false) × (has_work w rs ≡ false) → (has_work w rs ≡ false → control_in i w rs ≡ 0) → (b : Bool) → sum_by (share_in i w) (if b then current rs else r ∷ current rs) ≡ 0
    by h ih true = ih h.1
    by h ih false =
        let own : share_in i w r ≡ 0 = ap (λ b. if b then slice_index r.control i else 0) h.0 in
        omega (arith, own, sum_by-cons (share_in i w) r (current rs), ih h.1)

pub has_no_work : (rows : List Row) (w : ℕ) → IsSound rows → work_count rows < w → has_work w rows ≡ false
has_no_work rows w s lt = by (has_work w rows) refl
  where
    by : (b : Bool) → has_work w rows ≡ b → b ≡ false
    by false e = refl
    by true e = let h = s.numbered w e in absurd (omega (arith, h.1))

pub has_no_zero : (rows : List Row) → IsSound rows → has_work 0 rows ≡ false
has_no_zero rows s = by (has_work 0 rows) refl
  where
    by : (b : Bool) → has_work 0 rows ≡ b → b ≡ false
    by false e = refl
    by true e = let h = s.numbered 0 e in absurd (omega (arith, h.0))

pub count-le : (h : List EntryValue) → work_count (rows_of h) ≤ length h
count-le h = omega (arith, work_count-le (rows_of h), rows_of-le h)

pub versions-le : (k : Key) (h : List EntryValue) → versions_of k (rows_of h) ≤ length h
versions-le k h = omega (arith, count_by-le-length (λ r. same_key r.key k) (rows_of h), rows_of-le h)

pub others-small : (i w : ℕ) (k : Key) (rows : List Row) → IsSound rows → i < 3 → others_in i w k rows ≤ max_control
others-small i w k rows s lt = omega (arith, sum-current-split (share_in i w) k rows, s.small i w lt)

-- a work with no row has no ISWC and no control
pub indexed_work-none : (w : ℕ) (rows : List Row) → has_work w rows ≡ false → (let k : IndexedWork = record { iswc = None; control = 0 ∷ 0 ∷ 0 ∷ [] } in k ≡ indexed_work w rows)
indexed_work-none w rows e = rw (iswc-none w rows e, control-none 0 w rows e, control-none 1 w rows e, control-none 2 w rows e) refl

-- the work of a reply is one of the works, or a new one
abbrev pub IsPlaced : ℕ → Reply → Type 0
IsPlaced n (Accepted w v) = (1 ≤ w) × (w ≤ n)
IsPlaced n (Duplicate w) = (1 ≤ w) × (w ≤ n)
IsPlaced n (Conflict w) = (1 ≤ w) × (w ≤ n)
IsPlaced n Rejected = Unit

pub placed : (rows : List Row) (call : CallValue) → IsSound rows → IsPlaced (work_count rows + 1) (reply_to rows call)
placed rows call s = by_faults call.faults
  where
    at_taken : (u : ℕ) → (1 ≤ u) × (u ≤ work_count rows + 1) → (b : Bool) → IsPlaced (work_count rows + 1) (if b then Conflict u else Accepted u (versions_of (key_of call) rows + 1))
    at_taken u h true = h
    at_taken u h false = h

    old : (w : ℕ) → has_work w rows ≡ true → (1 ≤ w) × (w ≤ work_count rows + 1)
    old w e = let h = s.numbered w e in (h.0, omega (arith, h.1))

    new_one : (o : Option ℕ) → (1 ≤ work_for o rows) × (work_for o rows ≤ work_count rows + 1)
    new_one None = (omega arith, omega arith)
    new_one (Some i) = by (work_of_iswc i rows) refl
      where
        by : (o : Option ℕ) → work_of_iswc i rows ≡ o → (1 ≤ unwrap_or o (work_count rows + 1)) × (unwrap_or o (work_count rows + 1) ≤ work_count rows + 1)
        by None e = (omega arith, omega arith)
        by (Some u) e = old u (work-of-named i rows u e)

    by_clash : (q : Row) → last_of_key (key_of call) rows ≡ Some q → (b : Bool) → IsPlaced (work_count rows + 1) (if b then Conflict q.work else reply_for_work rows call q.work)
    by_clash q e true = old q.work (work-of-key (key_of call) rows q e)
    by_clash q e false = at_taken q.work (old q.work (work-of-key (key_of call) rows q e)) (is_over q.work (key_of call) call.control rows)

    by_kind : (q : Row) → last_of_key (key_of call) rows ≡ Some q → (k : WorkKind) → IsPlaced (work_count rows + 1) (reply_after_row k q rows call)
    by_kind q e Nwr = old q.work (work-of-key (key_of call) rows q e)
    by_kind q e Rev = by_clash q e (clashes call.iswc q.work rows)

    by_row : (o : Option Row) → last_of_key (key_of call) rows ≡ o → IsPlaced (work_count rows + 1) (reply_after o rows call)
    by_row None e = at_taken (work_for call.iswc rows) (new_one call.iswc) (is_over (work_for call.iswc rows) (key_of call) call.control rows)
    by_row (Some q) e = by_kind q e call.kind

    by_faults : (fs : List Fault) → IsPlaced (work_count rows + 1) (reply_unless fs rows call)
    by_faults [] = by_row (last_of_key (key_of call) rows) refl
    by_faults (f ∷ fs) = tt

pub reply-within : (h : List EntryValue) (call : CallValue) → IsHistory h → length h < max_entries → IsNumbered (reply_to (rows_of h) call)
reply-within h call is lt = by (reply_to (rows_of h) call) refl (placed (rows_of h) call (sound h is))
  where
    by : (r : Reply) → reply_to (rows_of h) call ≡ r → IsPlaced (work_count (rows_of h) + 1) r → IsNumbered r
    by (Accepted w v) e p =
        let t = takes-from (rows_of h) call w v (sound h is) e in
        ((p.0, omega (arith, p.1, count-le h)), (omega (arith, t.1), omega (arith, t.1, versions-le (key_of call) h)))
    by (Duplicate w) e p = (p.0, omega (arith, p.1, count-le h))
    by (Conflict w) e p = (p.0, omega (arith, p.1, count-le h))
    by Rejected e p = tt

-- what is kept of the work of an accepted call
pub step-control : (i : ℕ) (rows : List Row) (call : CallValue) (w : ℕ) → control_in i w (rows ++ row_of call w ∷ []) ≡ others_in i w (key_of call) rows + slice_index call.control i
step-control i rows call w =
    let own : share_in i w (row_of call w) ≡ slice_index call.control i = ap (λ b. if b then slice_index call.control i else 0) (eq-eqb w w refl) in
    sum-current-push (share_in i w) rows (row_of call w) ∙ ap (λ n. others_in i w (key_of call) rows + n) own

pub step-iswc : (rows : List Row) (call : CallValue) (w : ℕ) → iswc_of w (rows ++ row_of call w ∷ []) ≡ newer call.iswc (iswc_of w rows)
step-iswc rows call w = iswc_of-push w rows (row_of call w) ∙ ap (λ b. if b && is_some call.iswc then call.iswc else iswc_of w rows) (eq-eqb w w refl) ∙ by call.iswc
  where
    by : (o : Option ℕ) → (if is_some o then o else iswc_of w rows) ≡ newer o (iswc_of w rows)
    by None = refl
    by (Some i) = refl

pub last_none : (k : Key) (rows : List Row) → None ≡ indexed_claim k rows → last_of_key k rows ≡ None
last_none k rows e = by (last_of_key k rows) e
  where
    by : (o : Option Row) → (let n : Option IndexedClaim = None in n ≡ option_map (kept_from (versions_of k rows)) o) → o ≡ None
    by None e = refl
    by (Some r) e = absurd (cc)

pub reply-new : (rows : List Row) (call : CallValue) → call.faults ≡ [] → None ≡ indexed_claim (key_of call) rows → reply_to rows call ≡ reply_for_work rows call (work_for call.iswc rows)
reply-new rows call f e =
    ap (λ fs. reply_unless fs rows call) f ∙ ap (λ o. reply_after o rows call) (last_none (key_of call) rows e)

pub reply-old : (rows : List Row) (call : CallValue) (c : IndexedClaim) → call.faults ≡ [] → Some c ≡ indexed_claim (key_of call) rows → call.kind ≡ Rev →
    reply_to rows call ≡ (if clashes call.iswc c.work rows then Conflict c.work else reply_for_work rows call c.work)
reply-old rows call c f e k = ap (λ fs. reply_unless fs rows call) f ∙ by (last_of_key (key_of call) rows) e
  where
    by : (o : Option Row) → Some c ≡ option_map (kept_from (versions_of (key_of call) rows)) o → reply_after o rows call ≡ (if clashes call.iswc c.work rows then Conflict c.work else reply_for_work rows call c.work)
    by None e = absurd (cc)
    by (Some r) e =
        let same : c ≡ kept_from (versions_of (key_of call) rows) r = cc in
        let w : r.work ≡ c.work = ap (λ x. x.work) (sym same) in
        ap (λ d. reply_after_row d r rows call) k ∙ ap (λ n. if clashes call.iswc n rows then Conflict n else reply_for_work rows call n) w

pub step-is : (rows : List Row) (call : CallValue) (w v a b d : ℕ) (o : Option ℕ) →
    a ≡ others_in 0 w (key_of call) rows → b ≡ others_in 1 w (key_of call) rows → d ≡ others_in 2 w (key_of call) rows → o ≡ newer call.iswc (iswc_of w rows) →
    (let s : Option Change = Some (record { claim = record { work = w; version = v; control = call.control }; work = record { iswc = o; control = (a + slice_index call.control 0) ∷ (b + slice_index call.control 1) ∷ (d + slice_index call.control 2) ∷ [] } }) in s ≡ change_of rows call (Accepted w v))
step-is rows call w v a b d o p q r i =
    rw (step-control 0 rows call w, step-control 1 rows call w, step-control 2 rows call w, step-iswc rows call w, p, q, r, i) refl

pub nil-from : {X : Type 0} (xs : List X) → (let t : Bool = true in (length xs == 0) ≡ t) → xs ≡ []
nil-from [] e = refl
nil-from (x ∷ xs) e = absurd (omega (arith, eqb-true _ _ e))

pub step-fits : (i : ℕ) (rows : List Row) (call : CallValue) (w v : ℕ) → IsSound rows → i < 3 → reply_to rows call ≡ Accepted w v → others_in i w (key_of call) rows + slice_index call.control i ≤ max_control
step-fits i rows call w v s lt e = (takes-from rows call w v s e).0.fits i lt
