use Rattle.std.proofs.Common.{◌≡◌, false, arith}
use Rattle.std.proofs.lemmas.Grind.{common_steps}
use Rattle.std.proofs.lemmas.List.Elements.{All-push}
use Rattle.purvilgo_command.specs.declared.files.InputFile.{InputFile}
use Rattle.purvilgo_command.specs.declared.output.OutputFile.{OutputFile}
use Rattle.cwr_engine.specs.declared.jobs.Job.{Job}
use Rattle.purvilgo_command.proofs.running.jobs_of.Goals as goal

pub loop-file-preserved : goal.loop-file-preserved
loop-file-preserved g c = record {
  count = grind (arith, common_steps);
  works =
      rw c.in_ok-push.ensures.items (All-push (λ (j : Job (InputFile _ _ _) (OutputFile _ _ _)). (j.reader.failed ≡ false) × (j.writer.failed ≡ false)) _ _
      c.loop-file.invariant.works c.job_of.ensures);
}
