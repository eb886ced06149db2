use Rattle.std.proofs.Common.{◌≡◌, length}
use Rattle.timed_jobs.proofs.answers.AckDigest.text.Given as goal

abbrev pub invariant-loop-end : goal.invariant-loop-end
invariant-loop-end l = l.self.digest.failed ≡ l.initial.self.digest.failed

abbrev pub decreases-loop-end : goal.decreases-loop-end
decreases-loop-end l = length l.rest
