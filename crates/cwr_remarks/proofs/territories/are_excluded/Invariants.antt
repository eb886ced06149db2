use Rattle.std.proofs.Common.{◌≡◌}
use Rattle.cwr_remarks.specs.Territories.{are_excluded}
use Rattle.cwr_remarks.proofs.territories.are_excluded.Given as goal

-- what is told of the lines that are left is what is told of all
abbrev pub invariant-loop-line : goal.invariant-loop-line
invariant-loop-line l = are_excluded l.leading l.so_far l.line-iterator ≡ are_excluded l.leading l.fn.some l.fn.after
