use Rattle.std.proofs.Common.{◌≡◌, All, false, length, vec_len}
use Rattle.purvilgo_command.proofs.running.jobs_of.Given as goal

-- a job for each file so far, and none has failed
abbrev pub invariant-loop-file : goal.invariant-loop-file
invariant-loop-file g l = record {
  count : vec_len l.jobs ≡ length l.yielded;
  works : All (λ j. (j.reader.failed ≡ false) × (j.writer.failed ≡ false)) l.jobs.items;
}
