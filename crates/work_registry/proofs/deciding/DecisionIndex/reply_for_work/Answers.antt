use Rattle.std.proofs.Common.{arith, ◌≡◌, ◌∙◌, sym}
use Rattle.work_registry.specs.Rows.{rows_of, key_of}
use Rattle.work_registry.specs.Claims.{versions_of}
use Rattle.work_registry.proofs.KeptRows.{versions_some}
use Rattle.work_registry.proofs.SoundHistories.{versions-le}
use Rattle.work_registry.proofs.Decided.{over-is, reply-over, reply-first, reply-again}
use Rattle.work_registry.proofs.deciding.DecisionIndex.reply_for_work.Goals as goal

pub returns-then-is_over : goal.returns-then-is_over
returns-then-is_over g c =
    reply-over (rows_of c.args.self.now) c.args.call.now c.args.work
    (over-is (rows_of c.args.self.now) c.args.call.now c.args.work c.args.key.now c.control.result _ _ c.requires.own c.control.ensures.value c.is_over.ensures c.if-is_over.true)

pub overflow_add-result : goal.overflow_add-result
overflow_add-result g c =
    let k = key_of c.args.call.now in
    let same : c.in-Some.kept.version ≡ versions_of k (rows_of c.args.self.now) = versions_some k (rows_of c.args.self.now) c.in-Some.kept (sym c.in-Some.is ∙ c.requires.known) in
    omega (arith, same, versions-le k c.args.self.now, c.recall.ensures.few)

pub returns-in-Some : goal.returns-in-Some
returns-in-Some g c =
    reply-again (rows_of c.args.self.now) c.args.call.now c.args.work c.in-Some.kept
    (over-is (rows_of c.args.self.now) c.args.call.now c.args.work c.args.key.now c.control.result _ _ c.requires.own c.control.ensures.value c.is_over.ensures c.if-is_over.false)
    (sym c.in-Some.is ∙ c.requires.known)

pub returns-in-None : goal.returns-in-None
returns-in-None g c =
    reply-first (rows_of c.args.self.now) c.args.call.now c.args.work
    (over-is (rows_of c.args.self.now) c.args.call.now c.args.work c.args.key.now c.control.result _ _ c.requires.own c.control.ensures.value c.is_over.ensures c.if-is_over.false)
    (sym c.in-None.is ∙ c.requires.known)
