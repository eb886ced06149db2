use Rattle.std.proofs.Common.{◌≡◌, length}
use Rattle.timed_jobs.proofs.digest.Digest.filled_up.Given as goal

abbrev pub invariant-loop-first : goal.invariant-loop-first
invariant-loop-first l = l.self.failed ≡ l.initial.self.failed

abbrev pub decreases-loop-first : goal.decreases-loop-first
decreases-loop-first l = length l.rest
