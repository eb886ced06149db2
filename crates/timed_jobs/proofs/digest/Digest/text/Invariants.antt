use Rattle.std.proofs.Common.{◌≡◌}
use Rattle.timed_jobs.proofs.digest.Digest.text.Given as goal

abbrev pub invariant-loop-byte : goal.invariant-loop-byte
invariant-loop-byte l = l.self.failed ≡ l.fn.self.failed
