use Rattle.std.proofs.Common.{◌≡◌, drop}
use Rattle.rule_pages.specs.Names.{without_zeros}
use Rattle.rule_pages.proofs.words.without_zeros.Given as goal

-- so far all are zeros
abbrev pub invariant-loop-i : goal.invariant-loop-i
invariant-loop-i l = without_zeros (drop l.i l.digits) ≡ without_zeros l.fn.digits
