use Rattle.std.proofs.Common.{◌≡◌, length}
use Rattle.timed_jobs.proofs.digest.Digest.words.Given as goal

abbrev pub invariant-loop-word : goal.invariant-loop-word
invariant-loop-word l = l.self.failed ≡ l.initial.self.failed

abbrev pub decreases-loop-word : goal.decreases-loop-word
decreases-loop-word l = length l.rest
