use Rattle.std.proofs.Common.{◌≡◌, length, take}
use Rattle.cwr_verify.specs.Proposed.{AreFirst}
use Rattle.cwr_verify.specs.Wanting.{AreWaiting}
use Rattle.cwr_verify.proofs.proposal.owners_of.Given as goal

-- each entry so far has the first file that can have made it as its owner, and each file waits for its next call, and no others
abbrev pub invariant-loop-entry : goal.invariant-loop-entry
invariant-loop-entry g l = record {
  owned : length l.owners.items ≡ l.entry-index;
  first : AreFirst l.initial.wanted (take l.entry-index l.history) l.owners.items l.wanted;
  waiting : AreWaiting l.wanted l.waiting;
}
