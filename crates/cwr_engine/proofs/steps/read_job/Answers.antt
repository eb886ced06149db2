use Rattle.std.proofs.Common.{refl}
use Rattle.cwr_engine.proofs.steps.read_job.Goals as goal

pub returns : goal.returns
returns g c = record {
  writer = refl;
  read_on = c.judge_source-file.ensures.read_on;
  few_reads = c.judge_source-file.ensures.few_reads;
  judged = c.judge_source-file.ensures.judged;
  refused = c.judge_source-file.ensures.refused;
}
