-- the reply and the change, from what a book finds of a call's key, work and ISWC
use Rattle.std.proofs.Common.{◌≡◌, ◌≤◌, ◌<◌, ℕ, ◌+◌, ◌==◌, Bool, true, false, List, [], ◌∷◌, refl, sym, ap, ◌∙◌, arith, Option, Some, None, if◌then◌else◌, slice_index, length, zero, suc}
use Rattle.cwr_record.specs.declared.works.WorkKind.TheVariants.{Rev}
use Rattle.cwr_call.specs.CallValue.{CallValue}
use Rattle.work_registry.specs.declared.key.Key.{Key}
use Rattle.work_registry.specs.declared.indexes.IndexedClaim.{IndexedClaim}
use Rattle.work_registry.specs.declared.reply.Reply.{Reply}
use Rattle.work_registry.specs.declared.reply.Reply.TheVariants.{Accepted, Conflict}
use Rattle.work_registry.specs.declared.indexes.IndexedWork.{IndexedWork}
use Rattle.work_registry.specs.declared.indexes.Change.{Change}
use Rattle.work_registry.specs.declared.indexes.Decision.{Decision}
use Rattle.work_registry.specs.Rows.{Row, key_of}
use Rattle.work_registry.specs.Works.{others_of}
use Rattle.work_registry.specs.Indexes.{change_of, decision_on, indexed_claim, indexed_work, newer}
use Rattle.work_registry.specs.Reply.{reply_to, reply_for_work, is_over, work_for, clashes, max_control}
use Rattle.work_registry.proofs.SoundRows.{IsSound}
use Rattle.work_registry.proofs.KeptRows.{versions_some, versions_none}
use Rattle.work_registry.proofs.SoundHistories.{nil-from, reply-new, reply-old, step-is, step-fits}

pub over-is : (rows : List Row) (call : CallValue) (w : ℕ) (k : Key) (control : List ℕ) (b v : Bool) →
    k ≡ key_of call → control ≡ call.control → b ≡ is_over w k control rows → b ≡ v → is_over w (key_of call) call.control rows ≡ v
over-is rows call w k control b v own same is e = ap (λ x. is_over w x call.control rows) (sym own) ∙ ap (λ x. is_over w k x rows) (sym same) ∙ sym is ∙ e

pub reply-over : (rows : List Row) (call : CallValue) (w : ℕ) → is_over w (key_of call) call.control rows ≡ true → Conflict w ≡ reply_for_work rows call w
reply-over rows call w e = rw e refl

pub reply-first : (rows : List Row) (call : CallValue) (w : ℕ) → is_over w (key_of call) call.control rows ≡ false → None ≡ indexed_claim (key_of call) rows → Accepted w 1 ≡ reply_for_work rows call w
reply-first rows call w p e = rw (p, versions_none (key_of call) rows e) refl

pub reply-again : (rows : List Row) (call : CallValue) (w : ℕ) (c : IndexedClaim) → is_over w (key_of call) call.control rows ≡ false → Some c ≡ indexed_claim (key_of call) rows → Accepted w (c.version + 1) ≡ reply_for_work rows call w
reply-again rows call w c p e = rw (p, versions_some (key_of call) rows c e) refl

pub decided-new : (rows : List Row) (call : CallValue) (r : Reply) (w : ℕ) (i : Option ℕ) → (length call.faults == 0) ≡ true → None ≡ indexed_claim (key_of call) rows →
    r ≡ reply_for_work rows call w → w ≡ work_for i rows → i ≡ call.iswc → r ≡ reply_to rows call
decided-new rows call r w i f e is at same =
    is ∙ ap (λ n. reply_for_work rows call n) (at ∙ ap (λ o. work_for o rows) same) ∙ sym (reply-new rows call (nil-from _ f) e)

pub decided-old : (rows : List Row) (call : CallValue) (r : Reply) (c : IndexedClaim) (i : Option ℕ) (b : Bool) → (length call.faults == 0) ≡ true → Some c ≡ indexed_claim (key_of call) rows → call.kind ≡ Rev →
    b ≡ clashes i c.work rows → i ≡ call.iswc → b ≡ false → r ≡ reply_for_work rows call c.work → r ≡ reply_to rows call
decided-old rows call r c i b f e k clash same none is =
    let apart : clashes call.iswc c.work rows ≡ false = ap (λ o. clashes o c.work rows) (sym same) ∙ sym clash ∙ none in
    is
    ∙ ap (λ t. (let x : Reply = if t then Conflict c.work else reply_for_work rows call c.work in x)) (sym apart)
    ∙ sym (reply-old rows call c (nil-from _ f) e k)

pub control-fits : (right : ℕ) (rows : List Row) (call : CallValue) (w v : ℕ) (k : Key) (others control : List ℕ) → IsSound rows → right < 3 → reply_to rows call ≡ Accepted w v →
    k ≡ key_of call → others ≡ others_of w k rows → control ≡ call.control → slice_index others right + slice_index control right ≤ max_control
control-fits right rows call w v k others control s lt e own is same =
    let o : others ≡ others_of w (key_of call) rows = is ∙ ap (λ x. others_of w x rows) own in
    rw (o, same) (by right lt)
  where
    by : (n : ℕ) → n < 3 → slice_index (others_of w (key_of call) rows) n + slice_index call.control n ≤ max_control
    by zero l = step-fits 0 rows call w v s (omega arith) e
    by (suc zero) l = step-fits 1 rows call w v s (omega arith) e
    by (suc (suc zero)) l = step-fits 2 rows call w v s (omega arith) e
    by (suc (suc (suc n))) l = absurd (omega arith)

pub change-is : (rows : List Row) (call : CallValue) (w v : ℕ) (k : Key) (others control : List ℕ) (n i : Option ℕ) (old : IndexedWork) →
    k ≡ key_of call → others ≡ others_of w k rows → control ≡ call.control → n ≡ newer i old.iswc → i ≡ call.iswc → old ≡ indexed_work w rows →
    (let s : Option Change = Some (record { claim = record { work = w; version = v; control = control }; work = record { iswc = n; control = (slice_index others 0 + slice_index control 0) ∷ (slice_index others 1 + slice_index control 1) ∷ (slice_index others 2 + slice_index control 2) ∷ [] } }) in s ≡ change_of rows call (Accepted w v))
change-is rows call w v k others control n i old own is same new named kept =
    let o : others ≡ others_of w (key_of call) rows = is ∙ ap (λ x. others_of w x rows) own in
    rw same (step-is rows call w v _ _ _ n (ap (λ l. slice_index l 0) o) (ap (λ l. slice_index l 1) o) (ap (λ l. slice_index l 2) o)
    (new ∙ ap (λ x. newer x old.iswc) named ∙ ap (λ x. newer call.iswc x.iswc) kept))

pub decided-change : (rows : List Row) (call : CallValue) (d : Decision) → d ≡ decision_on rows call → d.change ≡ change_of rows call d.reply
decided-change rows call d e = ap (λ x. x.change) e ∙ ap (λ r. change_of rows call r) (sym (ap (λ x. x.reply) e))
