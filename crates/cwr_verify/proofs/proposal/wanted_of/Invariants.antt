use Rattle.std.proofs.Common.{◌≡◌, map, take}
use Rattle.cwr_verify.specs.Proposed.{wanting_of}
use Rattle.cwr_verify.proofs.proposal.wanted_of.Given as goal

-- what the files so far want
abbrev pub invariant-loop-file : goal.invariant-loop-file
invariant-loop-file g l = l.all.items ≡ map wanting_of (take l.file-index l.files)
