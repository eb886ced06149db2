use Rattle.cwr_verify.specs.Reading.{asked_in}
use Rattle.cwr_verify.proofs.Runs.{IsFoundBack}
use Rattle.cwr_verify.proofs.run.last_place.Given as goal

-- the calls behind those that are left have entries from here on
abbrev pub invariant-loop-at : goal.invariant-loop-at
invariant-loop-at g l = IsFoundBack (asked_in l.transactions) l.history l.at l.left

abbrev pub decreases-loop-at : goal.decreases-loop-at
decreases-loop-at g l = l.at
