-- what the reply keeps true of the rows
use Rattle.std.proofs.Common.{◌≡◌, ◌≤◌, ◌<◌, ℕ, ◌+◌, ◌==◌, Bool, true, false, not, List, [], ◌∷◌, ◌++◌, refl, sym, ap, ◌∙◌, arith, Option, Some, None, if◌then◌else◌, ◌||◌, ◌&&◌, eq-eqb, eqb-true, true≢false, zero, suc, nat_lt, slice_index, unwrap_or}
use Rattle.std.proofs.lemmas.Bool.{not-false}
use Rattle.std.specs.Option.{option_map, option_map_or, is_some}
use Rattle.std.proofs.lemmas.Grind.{common_steps}
use Rattle.work_registry.specs.declared.key.Key.{Key}
use Rattle.cwr_call.specs.CallValue.{CallValue}
use Rattle.cwr_call.specs.declared.transaction_fault.Fault.{Fault}
use Rattle.cwr_record.specs.declared.works.WorkKind.{WorkKind}
use Rattle.cwr_record.specs.declared.works.WorkKind.TheVariants.{Nwr, Rev}
use Rattle.work_registry.specs.declared.reply.Reply.{Reply}
use Rattle.work_registry.specs.declared.reply.Reply.TheVariants.{Accepted, Conflict}
use Rattle.work_registry.specs.Claims.{versions_of}
use Rattle.work_registry.specs.History.{Agrees, KeepsNames}
use Rattle.work_registry.specs.Reply.{clashes, differs, is_over, is_over_in, max_control, reply_after, reply_after_row, reply_for_work, reply_to, reply_unless, work_for}
use Rattle.work_registry.specs.Rows.{Row, key_of, last_of_key, last_such, row_of, same_key}
use Rattle.work_registry.specs.Works.{control_in, has_work, is_iswc, iswc_in, iswc_of, others_in, share_in, work_count, work_of_iswc}
use Rattle.work_registry.proofs.OneMoreRow.{last_such-is, last_such-in, list_any-push, sum-current-push, sum-current-split, work_count-push, iswc_of-push, work_of_iswc-push}
use Rattle.cwr_field.proofs.lemmas.Tests.{neither}

pub record IsSound (rows : List Row) : Type 0 where
  pub small : (i w : ℕ) → i < 3 → control_in i w rows ≤ max_control
  pub numbered : (w : ℕ) → has_work w rows ≡ true → (1 ≤ w) × (w ≤ work_count rows)
  pub agrees : Agrees rows

-- what holds of a row that is taken after the rows
pub record Takes (rows : List Row) (r : Row) : Type 0 where
  pub apart : clashes r.iswc r.work rows ≡ false
  pub place : has_work r.work rows ≡ false → r.work ≡ work_count rows + 1
  pub mine : (q : Row) → last_of_key r.key rows ≡ Some q → q.work ≡ r.work
  pub fits : (i : ℕ) → i < 3 → others_in i r.work r.key rows + slice_index r.control i ≤ max_control

pub fits-each : (rows : List Row) (w : ℕ) (k : Key) (control : List ℕ) → is_over w k control rows ≡ false →
    (i : ℕ) → i < 3 → others_in i w k rows + slice_index control i ≤ max_control
fits-each rows w k control e = by (neither _ _ e)
  where
    le : (n : ℕ) → nat_lt max_control n ≡ false → n ≤ max_control
    le n h = grind (arith, common_steps)

    by : (is_over_in 0 w k control rows ≡ false) × ((is_over_in 1 w k control rows || is_over_in 2 w k control rows) ≡ false) → (i : ℕ) → i < 3 → others_in i w k rows + slice_index control i ≤ max_control
    by h zero lt = le _ h.0
    by h (suc zero) lt = le _ (neither _ _ h.1).0
    by h (suc (suc zero)) lt = le _ (neither _ _ h.1).1
    by h (suc (suc (suc i))) lt = absurd (omega arith)

pub taken-is : (rows : List Row) (call : CallValue) (u w v : ℕ) → reply_for_work rows call u ≡ Accepted w v →
    (u ≡ w) × (v ≡ versions_of (key_of call) rows + 1) × (is_over u (key_of call) call.control rows ≡ false)
taken-is rows call u w v e = by (is_over u (key_of call) call.control rows) refl e
  where
    by : (b : Bool) → is_over u (key_of call) call.control rows ≡ b → (let r : Reply = if b then Conflict u else Accepted u (versions_of (key_of call) rows + 1) in r ≡ Accepted w v) →
        (u ≡ w) × (v ≡ versions_of (key_of call) rows + 1) × (is_over u (key_of call) call.control rows ≡ false)
    by true p e = absurd (cc)
    by false p e = (cc, cc, p)

pub iswc-none : (w : ℕ) (rows : List Row) → has_work w rows ≡ false → iswc_of w rows ≡ None
iswc-none w rows h = by (last_such (λ r. (r.work == w) && is_some r.iswc) rows) refl
  where
    first : (a b : Bool) → (a && b) ≡ true → a ≡ true
    first true b e = refl
    first false b e = e

    by : (o : Option Row) → last_such (λ r. (r.work == w) && is_some r.iswc) rows ≡ o → iswc_in o ≡ None
    by None e = refl
    by (Some x) e =
        let yes : (x.work == w) ≡ true = first _ _ (last_such-is (λ r. (r.work == w) && is_some r.iswc) rows x e) in
        absurd (true≢false (sym (last_such-in (λ r. (r.work == w) && is_some r.iswc) (λ r. r.work == w) rows x e yes) ∙ h))

pub no_work-beyond : (rows : List Row) → IsSound rows → has_work (work_count rows + 1) rows ≡ false
no_work-beyond rows s = by (has_work (work_count rows + 1) rows) refl
  where
    by : (b : Bool) → has_work (work_count rows + 1) rows ≡ b → b ≡ false
    by false e = refl
    by true e = let h = s.numbered (work_count rows + 1) e in absurd (omega (arith, h.1))

pub work-of-key : (k : Key) (rows : List Row) (q : Row) → last_of_key k rows ≡ Some q → has_work q.work rows ≡ true
work-of-key k rows q e = last_such-in (λ r. same_key r.key k) (λ r. r.work == q.work) rows q e (eq-eqb q.work q.work refl)

pub work-of-named : (i : ℕ) (rows : List Row) (w : ℕ) → work_of_iswc i rows ≡ Some w → has_work w rows ≡ true
work-of-named i rows w e = by (last_such (λ r. is_iswc i r.iswc) rows) refl e
  where
    by : (o : Option Row) → last_such (λ r. is_iswc i r.iswc) rows ≡ o → option_map (λ r. r.work) o ≡ Some w → has_work w rows ≡ true
    by None p e = absurd (cc)
    by (Some x) p e = let same : x.work ≡ w = cc in last_such-in (λ r. is_iswc i r.iswc) (λ r. r.work == w) rows x p (eq-eqb x.work w same)

pub apart-named : (i w : ℕ) (rows : List Row) → IsSound rows → work_of_iswc i rows ≡ Some w → clashes (Some i) w rows ≡ false
apart-named i w rows s e =
    let there : iswc_of w rows ≡ Some i = (s.agrees i w).0 e in
    let one : (w == w) ≡ true = eq-eqb w w refl in
    let two : (i == i) ≡ true = eq-eqb i i refl in
    rw (e, there) (rw (one, two) refl)

pub apart-new : (i w : ℕ) (rows : List Row) → work_of_iswc i rows ≡ None → iswc_of w rows ≡ None → clashes (Some i) w rows ≡ false
apart-new i w rows e f = rw (e, f) refl

pub takes-from : (rows : List Row) (call : CallValue) (w v : ℕ) → IsSound rows → reply_to rows call ≡ Accepted w v →
    Takes rows (row_of call w) × (v ≡ versions_of (key_of call) rows + 1)
takes-from rows call w v s e = by_faults call.faults e
  where
    new_one : (o : Option ℕ) → call.iswc ≡ o → reply_for_work rows call (work_for o rows) ≡ Accepted w v → last_of_key (key_of call) rows ≡ None → Takes rows (row_of call w) × (v ≡ versions_of (key_of call) rows + 1)
    new_one None q t n =
        let h = taken-is rows call (work_count rows + 1) w v t in
        let far : is_over w (key_of call) call.control rows ≡ false = rw (h.0) at h.2 in
        (record { apart = (rw q refl); place = (λ _. sym h.0); mine = (λ x m. absurd (cc)); fits = fits-each rows w (key_of call) call.control far }, h.1)
    new_one (Some i) q t n = by (work_of_iswc i rows) refl t
      where
        by : (o : Option ℕ) → work_of_iswc i rows ≡ o → reply_for_work rows call (unwrap_or o (work_count rows + 1)) ≡ Accepted w v → Takes rows (row_of call w) × (v ≡ versions_of (key_of call) rows + 1)
        by None p t =
            let h = taken-is rows call (work_count rows + 1) w v t in
            let far : is_over w (key_of call) call.control rows ≡ false = rw (h.0) at h.2 in
            let none : iswc_of (work_count rows + 1) rows ≡ None = iswc-none _ rows (no_work-beyond rows s) in
            let none' : iswc_of w rows ≡ None = rw (h.0) at none in
            (record { apart = (rw q (apart-new i w rows p none')); place = (λ _. sym h.0); mine = (λ x m. absurd (cc)); fits = fits-each rows w (key_of call) call.control far }, h.1)
        by (Some u) p t =
            let h = taken-is rows call u w v t in
            let far : is_over w (key_of call) call.control rows ≡ false = rw (h.0) at h.2 in
            let p' : work_of_iswc i rows ≡ Some w = p ∙ ap (λ x. Some x) h.0 in
            (record { apart = (rw q (apart-named i w rows s p')); place = (λ no. absurd (true≢false (sym (work-of-named i rows w p') ∙ no))); mine = (λ x m. absurd (cc)); fits = fits-each rows w (key_of call) call.control far }, h.1)

    revised : (q : Row) → last_of_key (key_of call) rows ≡ Some q → (b : Bool) → clashes call.iswc q.work rows ≡ b → (let r : Reply = if b then Conflict q.work else reply_for_work rows call q.work in r ≡ Accepted w v) →
        Takes rows (row_of call w) × (v ≡ versions_of (key_of call) rows + 1)
    revised q l true c e = absurd (cc)
    revised q l false c e =
        let h = taken-is rows call q.work w v e in
        let far : is_over w (key_of call) call.control rows ≡ false = rw (h.0) at h.2 in
        let c' : clashes call.iswc w rows ≡ false = rw (h.0) at c in
        let there : has_work w rows ≡ true = rw (h.0) at (work-of-key (key_of call) rows q l) in
        (record { apart = c'; place = (λ no. absurd (true≢false (sym there ∙ no))); mine = (λ x m. (let same : x ≡ q = cc in ap (λ y. y.work) same ∙ h.0)); fits = fits-each rows w (key_of call) call.control far }, h.1)

    by_kind : (q : Row) → last_of_key (key_of call) rows ≡ Some q → (k : WorkKind) → reply_after_row k q rows call ≡ Accepted w v → Takes rows (row_of call w) × (v ≡ versions_of (key_of call) rows + 1)
    by_kind q l Nwr e = absurd (cc)
    by_kind q l Rev e = revised q l (clashes call.iswc q.work rows) refl e

    by_row : (o : Option Row) → last_of_key (key_of call) rows ≡ o → reply_after o rows call ≡ Accepted w v → Takes rows (row_of call w) × (v ≡ versions_of (key_of call) rows + 1)
    by_row None l e = new_one call.iswc refl e l
    by_row (Some q) l e = by_kind q l call.kind e

    by_faults : (fs : List Fault) → reply_unless fs rows call ≡ Accepted w v → Takes rows (row_of call w) × (v ≡ versions_of (key_of call) rows + 1)
    by_faults [] e = by_row (last_of_key (key_of call) rows) refl e
    by_faults (f ∷ fs) e = absurd (cc)

pub small-push : (rows : List Row) (r : Row) → IsSound rows → Takes rows r → (i w : ℕ) → i < 3 → control_in i w (rows ++ r ∷ []) ≤ max_control
small-push rows r s t i w lt = by (r.work == w) refl
  where
    grown : control_in i w (rows ++ r ∷ []) ≡ others_in i w r.key rows + share_in i w r
    grown = sum-current-push (share_in i w) rows r

    parts : control_in i w rows ≡ others_in i w r.key rows + option_map_or (share_in i w) (last_of_key r.key rows) 0
    parts = sum-current-split (share_in i w) r.key rows

    by : (b : Bool) → (r.work == w) ≡ b → control_in i w (rows ++ r ∷ []) ≤ max_control
    by true e =
        let own : share_in i w r ≡ slice_index r.control i = ap (λ b. if b then slice_index r.control i else 0) e in
        let fit : others_in i w r.key rows + slice_index r.control i ≤ max_control = rw (eqb-true _ _ e) at (t.fits i lt) in
        omega (arith, grown, own, fit)
    by false e =
        let own : share_in i w r ≡ 0 = ap (λ b. if b then slice_index r.control i else 0) e in
        omega (arith, grown, own, parts, s.small i w lt)

pub numbered-push : (rows : List Row) (r : Row) → IsSound rows → Takes rows r → (w : ℕ) → has_work w (rows ++ r ∷ []) ≡ true →
    (1 ≤ w) × (w ≤ work_count (rows ++ r ∷ []))
numbered-push rows r s t w h = by (has_work w rows) refl (sym (list_any-push (λ x. x.work == w) rows r) ∙ h)
  where
    at_new : (b : Bool) → has_work r.work rows ≡ b → work_count (rows ++ r ∷ []) ≡ work_count rows + (if b then 0 else 1) → r.work ≡ w → (1 ≤ w) × (w ≤ work_count (rows ++ r ∷ []))
    at_new true e c same = let n = s.numbered r.work e in (omega (arith, n.0), omega (arith, n.1, c))
    at_new false e c same = let n = t.place e in (omega arith, omega (arith, c))

    by : (b : Bool) → has_work w rows ≡ b → (b || (r.work == w)) ≡ true → (1 ≤ w) × (w ≤ work_count (rows ++ r ∷ []))
    by true e o = let n = s.numbered w e in (n.0, omega (arith, n.1, work_count-push rows r))
    by false e o = at_new (has_work r.work rows) refl (work_count-push rows r) (eqb-true _ _ o)

pub agrees-push : (rows : List Row) (r : Row) → IsSound rows → Takes rows r → Agrees (rows ++ r ∷ [])
agrees-push rows r s t i w = rw (iswc_of-push w rows r, work_of_iswc-push i rows r) (by r.iswc t.apart)
  where
    old : (work_of_iswc i rows ≡ Some w → iswc_of w rows ≡ Some i) × (iswc_of w rows ≡ Some i → work_of_iswc i rows ≡ Some w)
    old = s.agrees i w

    unnamed : (b : Bool) → (work_of_iswc i rows ≡ Some w → (let m : Option ℕ = if b && false then None else iswc_of w rows in m ≡ Some i)) × ((let m : Option ℕ = if b && false then None else iswc_of w rows in m ≡ Some i) → work_of_iswc i rows ≡ Some w)
    unnamed true = old
    unnamed false = old

    named : (j : ℕ) → differs r.work (work_of_iswc j rows) ≡ false → differs j (iswc_of r.work rows) ≡ false → (a : Bool) → (i == j) ≡ a → (b : Bool) → (r.work == w) ≡ b →
        ((let n : Option ℕ = if a then Some r.work else work_of_iswc i rows in n ≡ Some w) → (let m : Option ℕ = if b && true then Some j else iswc_of w rows in m ≡ Some i))
        × ((let m : Option ℕ = if b && true then Some j else iswc_of w rows in m ≡ Some i) → (let n : Option ℕ = if a then Some r.work else work_of_iswc i rows in n ≡ Some w))
    named j d1 d2 true p true q = (λ _. ap (λ x. Some x) (sym (eqb-true _ _ p)), λ _. ap (λ x. Some x) (eqb-true _ _ q))
    named j d1 d2 true p false q = (
      λ h. (let same : r.work ≡ w = cc in absurd (true≢false (sym (eq-eqb _ _ same) ∙ q))),
      λ h. (let here : work_of_iswc j rows ≡ Some w = rw (eqb-true _ _ p) at (old.1 h) in
          let d : not (w == r.work) ≡ false = rw here at d1 in
          absurd (true≢false (sym (eq-eqb _ _ (sym (eqb-true _ _ (not-false _ d)))) ∙ q))),
    )
    named j d1 d2 false p true q = (
      λ h. (let here : iswc_of r.work rows ≡ Some i = rw (← eqb-true _ _ q) at (old.0 h) in
          let d : not (i == j) ≡ false = rw here at d2 in
          absurd (true≢false (sym (not-false _ d) ∙ p))),
      λ h. (let same : j ≡ i = cc in absurd (true≢false (sym (eq-eqb _ _ (sym same)) ∙ p))),
    )
    named j d1 d2 false p false q = old

    by : (o : Option ℕ) → clashes o r.work rows ≡ false →
        ((let n : Option ℕ = if is_iswc i o then Some r.work else work_of_iswc i rows in n ≡ Some w) → (let m : Option ℕ = if (r.work == w) && is_some o then o else iswc_of w rows in m ≡ Some i))
        × ((let m : Option ℕ = if (r.work == w) && is_some o then o else iswc_of w rows in m ≡ Some i) → (let n : Option ℕ = if is_iswc i o then Some r.work else work_of_iswc i rows in n ≡ Some w))
    by None c = unnamed (r.work == w)
    by (Some j) c = let d = neither _ _ c in named j d.0 d.1 (i == j) refl (r.work == w) refl

pub sound-push : (rows : List Row) (r : Row) → IsSound rows → Takes rows r → IsSound (rows ++ r ∷ [])
sound-push rows r s t = record { small = small-push rows r s t; numbered = numbered-push rows r s t; agrees = agrees-push rows r s t }

pub keeps-push : (rows : List Row) (r : Row) → Takes rows r → KeepsNames rows (rows ++ r ∷ [])
keeps-push rows r t w i h = iswc_of-push w rows r ∙ by r.iswc t.apart (r.work == w) refl
  where
    by : (o : Option ℕ) → clashes o r.work rows ≡ false → (b : Bool) → (r.work == w) ≡ b → (if b && is_some o then o else iswc_of w rows) ≡ Some i
    by None c true e = h
    by None c false e = h
    by (Some j) c false e = h
    by (Some j) c true e =
        let here : iswc_of r.work rows ≡ Some i = rw (← eqb-true _ _ e) at h in
        let d : not (i == j) ≡ false = rw here at (neither (differs r.work (work_of_iswc j rows)) (differs j (iswc_of r.work rows)) c).1 in
        ap (λ x. Some x) (sym (eqb-true _ _ (not-false _ d)))
