use Rattle.cwr_verify.proofs.Turns.{AreWaitingBelow}
use Rattle.cwr_verify.proofs.wanted.waiting_of.Given as goal

-- the files so far wait, and no others
abbrev pub invariant-loop-file : goal.invariant-loop-file
invariant-loop-file g l = AreWaitingBelow l.file l.wanted l.waiting
