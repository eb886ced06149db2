use Rattle.std.proofs.Common.{◌≡◌, All, false, vec_len}
use Rattle.ordered_run_tests.proofs.beside.jobs.Given as goal

-- a job for each file so far, and none has failed
abbrev pub invariant-loop-file : goal.invariant-loop-file
invariant-loop-file l = record {
  count : vec_len l.jobs ≡ l.file-index;
  works : All (λ j. (j.reader.failed ≡ false) × (j.writer.failed ≡ false)) l.jobs.items;
}
