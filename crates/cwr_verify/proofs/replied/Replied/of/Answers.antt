use Rattle.cwr_verify.proofs.Replying.{fitting_none}
use Rattle.cwr_verify.proofs.replied.Replied.of.Goals as goal

pub invariant_of-result : goal.invariant_of-result
invariant_of-result g c = fitting_none c.args.transactions.now c.in_ok-replies.replies.items c.requires c.in_ok-replies.ensures.items
