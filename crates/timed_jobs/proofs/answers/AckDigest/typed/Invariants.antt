use Rattle.std.proofs.Common.{◌≡◌, length}
use Rattle.timed_jobs.proofs.answers.AckDigest.typed.Given as goal

abbrev pub invariant-loop-first : goal.invariant-loop-first
invariant-loop-first l = l.self.digest.failed ≡ l.initial.self.digest.failed

abbrev pub decreases-loop-first : goal.decreases-loop-first
decreases-loop-first l = length l.rest
