use Rattle.std.proofs.Common.{◌≡◌, take}
use Rattle.cwr_verify.proofs.compared.same_front.Given as goal

-- the bytes so far are alike
abbrev pub invariant-loop-same : goal.invariant-loop-same
invariant-loop-same l = take l.same l.one ≡ take l.same l.other
