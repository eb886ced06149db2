use Rattle.std.proofs.Common.{◌≡◌, ◌∙◌, List, length, ap, sym, subst, arith}
use Rattle.std.proofs.lemmas.Result.{err_from_is_err_and}
use Rattle.work_registry.specs.EntryValue.{EntryValue}
use Rattle.cwr_verify.proofs.Files.{next_file, replied_at, sent_at, wanted_count}
use Rattle.cwr_verify.proofs.Lists.{zip_length}
use Rattle.cwr_verify.proofs.Telling.{proposed, unverified}
use Rattle.cwr_verify.specs.Owned.{owned}
use Rattle.cwr_verify.specs.Read.{IsReadFrom}
use Rattle.cwr_verify.specs.Replied.{AreBegunBy, AreRepliedBy, Replied}
use Rattle.cwr_verify.specs.Sent.{Sent}
use Rattle.cwr_verify.specs.Verified.{IsAnsweredBy}
use Rattle.cwr_verify.proofs.verifying.check_files.Goals as goal

pub bounds-wanted-number : goal.bounds-wanted-number
bounds-wanted-number g c =
    let same = wanted_count c.args.files.now c.requires.0 c.requires.1 c.args.wanted.now c.requires.2 in
    omega (arith, same, c.loop-number-test.true)

pub offset_bounds-wanted-number : goal.offset_bounds-wanted-number
offset_bounds-wanted-number g c =
    let same = wanted_count c.args.files.now c.requires.0 c.requires.1 c.args.wanted.now c.requires.2 in
    omega (arith, same, c.loop-number-test.true)

pub check_file-requires-clause-its : goal.check_file-requires-clause-its
check_file-requires-clause-its g c =
    let is = replied_at c.args.files.now c.requires.0 c.requires.1 c.args.wanted.now c.loop-number.number c.index-files-number.result c.index-wanted-number.result c.requires.2
    c.loop-number-test.true c.index-files-number.is c.index-wanted-number.is in
    ap (λ (r : Replied). r.transactions) c.replied.ensures ∙ is.its

pub check_file-requires-clause-made : goal.check_file-requires-clause-made
check_file-requires-clause-made g c =
    let is = replied_at c.args.files.now c.requires.0 c.requires.1 c.args.wanted.now c.loop-number.number c.index-files-number.result c.index-wanted-number.result c.requires.2
    c.loop-number-test.true c.index-files-number.is c.index-wanted-number.is in
    subst (λ (r : Replied). length r.replies ≡ length r.transactions → (x : List EntryValue) × AreRepliedBy r x) (sym c.replied.ensures)
    (λ whole. (owned c.loop-number.number c.requires.1 c.requires.0, is.made whole))

pub returns-in_err-check_file-clause-told : goal.returns-in_err-check_file-clause-told
returns-in_err-check_file-clause-told g c =
    let p = err_from_is_err_and c.from_residual.result c.from_residual.ensures.1 in
    rw (p.1, p.2) (λ sent history owners are first.
    let at = sent_at sent c.args.files.now c.loop-number.number c.index-files-number.result are c.loop-number-test.true c.index-files-number.is in
    let is = replied_at c.args.files.now history owners c.args.wanted.now c.loop-number.number c.index-files-number.result c.index-wanted-number.result first
    c.loop-number-test.true c.index-files-number.is c.index-wanted-number.is in
    unverified history sent c.loop-number.number at.0 owners (proposed sent c.args.files.now history owners c.args.wanted.now are first) at.1 at.2
    (λ other d lt. c.loop-number.invariant sent history owners are first other d lt) c.in_err-check_file.field-0.0
    (c.in_err-check_file.ensures.told at.0 (owned c.loop-number.number owners history) at.3
    (subst (λ (r : Replied). AreBegunBy r (owned c.loop-number.number owners history)) (sym c.replied.ensures) is.begun)))

pub loop-number-preserved : goal.loop-number-preserved
loop-number-preserved g c = λ sent history owners are first file d below.
    let at = sent_at sent c.args.files.now c.loop-number.number c.index-files-number.result are c.loop-number-test.true c.index-files-number.is in
    let is = replied_at c.args.files.now history owners c.args.wanted.now c.loop-number.number c.index-files-number.result c.index-wanted-number.result first
    c.loop-number-test.true c.index-files-number.is c.index-wanted-number.is in
    next_file owners history sent c.loop-number.number at.0 (λ other e before. c.loop-number.invariant sent history owners are first other e before) at.1 at.2
    (subst (λ (r : Replied). (length r.replies ≡ length r.transactions) → ((s : Sent) (entries : List EntryValue) → IsReadFrom s c.index-files-number.result → AreRepliedBy r entries → IsAnsweredBy s entries)
    → IsAnsweredBy at.0 (owned c.loop-number.number owners history)) (sym c.replied.ensures)
    (λ whole by. by at.0 (owned c.loop-number.number owners history) at.3 (is.made whole)) c.in_ok-check_file.ensures.answered c.in_ok-check_file.ensures.by_each)
    file d below

pub returns-clause-answered : goal.returns-clause-answered
returns-clause-answered g c = λ sent history owners are first each.
    let many = zip_length IsReadFrom sent c.args.files.now are in
    record { each_entry = each; each_file = λ file d lt. c.loop-number.invariant sent history owners are first file d (omega (arith, lt, many, c.loop-number-test.false)) }
