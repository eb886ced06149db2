use Rattle.std.proofs.Common.{ℕ, ◌+◌, ◌≤◌, List, length}
use Rattle.cwr_field.specs.Number.{max_count}
use Rattle.cwr_rules.specs.Judging.{IsJudging}
use Rattle.cwr_rules_tests.proofs.judging.taken.Given as goal

-- some first lines were taken, and the others are still to come
abbrev pub invariant-loop-line : goal.invariant-loop-line
invariant-loop-line l = (lines : List (List ℕ)) × (length lines + length l.line-iterator ≤ max_count) × IsJudging l.read l.transaction.kind lines
