use Rattle.std.proofs.Common.{◌≡◌, All, false, vec_len}
use Rattle.failing_alloc_run_tests.proofs.jobs.jobs_of.Given as goal

-- a job for each file so far, and none has failed
abbrev pub invariant-loop-bytes : goal.invariant-loop-bytes
invariant-loop-bytes l = record {
  count : vec_len l.jobs ≡ l.bytes-index;
  works : All (λ j. (j.reader.has_failed ≡ false) × (j.writer.has_failed ≡ false)) l.jobs.items;
}
