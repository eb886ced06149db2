use Rattle.std.proofs.Common.{◌≡◌, All, false, vec_len}
use Rattle.test_jobs.proofs.jobs.jobs_of.Given as goal

-- a job for each file so far, and none has failed
abbrev pub invariant-loop-input : goal.invariant-loop-input
invariant-loop-input l = record {
  count : vec_len l.jobs ≡ l.input-index;
  works : All (λ j. (j.reader.has_failed ≡ false) × (j.writer.has_failed ≡ false)) l.jobs.items;
}
