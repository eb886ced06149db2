use Rattle.std.proofs.Common.{◌≡◌, All, false}
use Rattle.group_run_tests.proofs.ended_texts.jobs.Given as goal

-- none has failed
abbrev pub invariant-loop-file : goal.invariant-loop-file
invariant-loop-file l = record {
  works : All (λ j. (j.reader.failed ≡ false) × (j.writer.failed ≡ false)) l.jobs.items;
}
