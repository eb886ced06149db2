use Rattle.std.proofs.Common.{◌∙◌, arith, rules, refl}
use Rattle.cwr_acknowledgement.proofs.AckSteps.{message_next}
use Rattle.cwr_acknowledgement.proofs.Puts.{front_none, front_more, front_cut, cut_put, size_after}
use Rattle.cwr_acknowledgement.proofs.acknowledgement.put_messages.Goals as goal

pub loop-before-init : goal.loop-before-init
loop-before-init g c = record { form = refl; works = search rules; put = front_none _ _ _ }

pub put_message-requires-clause-size : goal.put_message-requires-clause-size
put_message-requires-clause-size g c =
    let size = size_after _ _ _ _ _ _ c.loop-before.invariant.put.put in
    omega (arith, size, c.loop-before-test.true, c.requires.size)

pub returns-in_err-put_message-clause-put : goal.returns-in_err-put_message-clause-put
returns-in_err-put_message-clause-put g c =
    cut_put c.from_residual.result c.in_err-put_message.field-0.0 _ _ _ _ _ _ c.from_residual.ensures.1
    (front_cut _ _ _ _ _ _ _ _ _ _ _ c.loop-before.invariant.put (message_next c.args.faults.now c.args.index c.loop-before.before _ c.loop-before-test.true)
    c.in_err-put_message.ensures.put)

pub loop-before-preserved : goal.loop-before-preserved
loop-before-preserved g c = record {
  form = c.in_ok-put_message.ensures.same ∙ c.loop-before.invariant.form;
  works = search rules;
  put =
      front_more _ _ _ _ _ _ _ 1 _ _ _ _ _ c.loop-before.invariant.put
      (message_next c.args.faults.now c.args.index c.loop-before.before _ c.loop-before-test.true) refl c.in_ok-put_message.ensures.put;
}
