use Rattle.std.proofs.Common.{◌≡◌, ◌≤◌, ◌++◌, length, vec_capacity}
use Rattle.work_registry.proofs.register.chunks.Rest.fill.Given as goal

-- what was put, and what is left behind it
abbrev pub invariant-loop-self : goal.invariant-loop-self
invariant-loop-self g l = record {
  text : l.fn.self ≡ l.held.items ++ l.self;
  room : vec_capacity l.fn.held ≤ vec_capacity l.held;
}

abbrev pub decreases-loop-self : goal.decreases-loop-self
decreases-loop-self g l = length l.self
