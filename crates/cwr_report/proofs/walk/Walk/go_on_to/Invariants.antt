use Rattle.std.proofs.Common.{◌≡◌, ◌≤◌, ◌-◌, ℕ, List}
use Rattle.cwr_report.specs.Walks.{IsWalk}
use Rattle.cwr_report.proofs.walk.Walk.go_on_to.Given as goal

-- it is a walk, and has not gone too far
abbrev pub invariant-loop-self : goal.invariant-loop-self
invariant-loop-self l = record {
  near : l.self.passed ≤ l.index;
  keeps : l.self.keeps ≡ l.fn.self.keeps;
  walk : (lines : List (List ℕ)) → IsWalk l.fn.self lines l.fn.self.passed → IsWalk l.self lines l.self.passed;
}

abbrev pub decreases-loop-self : goal.decreases-loop-self
decreases-loop-self l = l.index - l.self.passed
