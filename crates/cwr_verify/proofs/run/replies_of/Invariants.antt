use Rattle.cwr_verify.proofs.RunReplies.{AreReplies}
use Rattle.cwr_verify.proofs.run.replies_of.Given as goal

-- the replies of the run so far
abbrev pub invariant-loop-entry : goal.invariant-loop-entry
invariant-loop-entry g l = AreReplies l.transactions l.history l.entry-index l.replied
