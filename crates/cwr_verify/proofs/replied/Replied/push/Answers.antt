use Rattle.std.proofs.Common.{◌∙◌, IsTrue, List, ap, subst}
use Rattle.cwr_call.specs.CallValue.{CallValue}
use Rattle.cwr_call.specs.Lawful.{are_faults}
use Rattle.cwr_call.specs.declared.transaction_fault.Fault.{Fault}
use Rattle.cwr_verify.proofs.Replying.{fitting_more}
use Rattle.cwr_verify.specs.Replied.{next_call}
use Rattle.cwr_verify.proofs.replied.Replied.push.Goals as goal

pub invariant_of-self-2 : goal.invariant_of-self-2
invariant_of-self-2 g c =
    fitting_more c.self.inside.transactions.now c.self.inside.replies.items c.push.new.self.items c.args.entry.now c.reply.result c.self.invariant
    (ap next_call c.self.view_is ∙ c.requires.call) c.requires.numbered
    (subst (λ (faults : List Fault). IsTrue (are_faults faults)) (c.faults-faults.ensures.value ∙ ap (λ (call : CallValue). call.faults) c.call.ensures) c.faults-faults.ensures.faults)
    c.reply.ensures c.in_ok-push.ensures.items
