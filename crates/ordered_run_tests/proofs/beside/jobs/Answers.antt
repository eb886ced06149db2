use Rattle.std.proofs.Common.{◌≡◌, false, arith}
use Rattle.std.proofs.lemmas.Grind.{common_steps}
use Rattle.std.proofs.lemmas.List.Elements.{All-push}
use Rattle.cwr_engine.specs.declared.jobs.Job.{Job}
use Rattle.ordered_run_tests.specs.declared.beside.WaitingReader.{WaitingReader}
use Rattle.ordered_run_tests.specs.declared.beside.WaitingWriter.{WaitingWriter}
use Rattle.ordered_run_tests.proofs.beside.jobs.Goals as goal

pub loop-file-preserved : goal.loop-file-preserved
loop-file-preserved c = record {
  count = grind (arith, common_steps);
  works =
      rw c.in_ok-push.ensures.items (All-push (λ (j : Job WaitingReader WaitingWriter). (j.reader.failed ≡ false) × (j.writer.failed ≡ false)) _ _
      c.loop-file.invariant.works c.job.ensures);
}
