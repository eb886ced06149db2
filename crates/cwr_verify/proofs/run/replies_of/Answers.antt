use Rattle.std.proofs.Common.{◌≡◌, ◌∙◌, ◌+◌, Some, true, false, sym, subst}
use Rattle.cwr_verify.proofs.RunReplies.{AreReplies, no_replies, replies_all, replies_more, replies_passed, replies_run, replies_some}
use Rattle.cwr_verify.specs.Replied.{next_call}
use Rattle.cwr_verify.proofs.run.replies_of.Goals as goal
use Rattle.cwr_verify.proofs.run.replies_of.Goals.{then-is_next+in_ok-push, else-is_next}

pub loop-entry-init : goal.loop-entry-init
loop-entry-init g c = no_replies c.args.transactions.now c.args.history.now c.in_ok-replied.replied c.in_ok-replied.ensures

pub loop-entry-preserved : goal.loop-entry-preserved
loop-entry-preserved g c =
    elim c.if-is_next.branch [
      | then-is_next+in_ok-push w ↦
          subst (AreReplies c.args.transactions.now c.args.history.now (c.loop-entry.entry-index + 1)) (sym w.replied-is)
          (replies_more c.args.transactions.now c.args.history.now c.loop-entry.entry-index c.loop-entry.replied w.push.new.self c.entry-item.result
          c.loop-entry-test.true c.entry-item.is (c.is_next.ensures.0 w.if-is_next.true) w.in_ok-push.ensures c.loop-entry.invariant)
      | else-is_next w ↦
          let other : next_call c.loop-entry.replied ≡ Some c.entry-item.result.call → ⊥ = λ call.
          let bad : true ≡ false = sym (c.is_next.ensures.1 call) ∙ w.if-is_next.false in cc in
          subst (AreReplies c.args.transactions.now c.args.history.now (c.loop-entry.entry-index + 1)) (sym w.replied-is)
          (replies_passed c.args.transactions.now c.args.history.now c.loop-entry.entry-index c.loop-entry.replied c.entry-item.result c.loop-entry-test.true c.entry-item.is other c.loop-entry.invariant)
    ]

pub returns-clause-its : goal.returns-clause-its
returns-clause-its g c = c.loop-entry.invariant.its

pub returns-clause-run : goal.returns-clause-run
returns-clause-run g c = replies_run c.args.transactions.now c.args.history.now c.loop-entry.entry-index c.loop-entry.replied c.loop-entry.invariant

pub returns-clause-some : goal.returns-clause-some
returns-clause-some g c = replies_some c.args.transactions.now c.args.history.now c.loop-entry.entry-index c.loop-entry.replied c.loop-entry.invariant

pub returns-clause-no_more : goal.returns-clause-no_more
returns-clause-no_more g c = replies_all c.args.transactions.now c.args.history.now c.loop-entry.entry-index c.loop-entry.replied c.loop-entry-test.false c.loop-entry.invariant
