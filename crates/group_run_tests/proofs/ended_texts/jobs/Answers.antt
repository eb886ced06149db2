use Rattle.std.proofs.Common.{◌≡◌, false, arith}
use Rattle.std.proofs.lemmas.Grind.{common_steps}
use Rattle.std.proofs.lemmas.List.Elements.{All-push}
use Rattle.cwr_engine.specs.declared.jobs.Job.{Job}
use Rattle.group_run_tests.specs.declared.open_texts.OpenReader.{OpenReader}
use Rattle.group_run_tests.specs.declared.open_texts.OpenWriter.{OpenWriter}
use Rattle.group_run_tests.proofs.ended_texts.jobs.Goals as goal

pub loop-file-preserved : goal.loop-file-preserved
loop-file-preserved c = record {
  works =
      rw c.in_ok-push.ensures.items (All-push (λ (j : Job OpenReader OpenWriter). (j.reader.failed ≡ false) × (j.writer.failed ≡ false)) _ _
      c.loop-file.invariant.works c.job.ensures);
}
