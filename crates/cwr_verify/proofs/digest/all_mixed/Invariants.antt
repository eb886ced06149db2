use Rattle.std.proofs.Common.{◌≡◌, fold, take}
use Rattle.cwr_verify.specs.Digest.{mixed}
use Rattle.cwr_verify.proofs.digest.all_mixed.Given as goal

-- the numbers so far are mixed
abbrev pub invariant-loop-number : goal.invariant-loop-number
invariant-loop-number l = l.all ≡ fold mixed l.initial.all (take l.number-index l.numbers)
