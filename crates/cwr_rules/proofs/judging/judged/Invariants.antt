use Rattle.std.proofs.Common.{◌≡◌, ℕ, ◌++◌, List}
use Rattle.cwr_rules.specs.Judging.{IsJudging}
use Rattle.cwr_rules.proofs.judging.judged.Given as goal

-- some first lines were taken, and the others are still to come
abbrev pub invariant-loop-line : goal.invariant-loop-line
invariant-loop-line g l = (lines : List (List ℕ)) × (lines ++ l.line-iterator ≡ l.transaction.lines) × IsJudging l.read l.transaction.kind lines
