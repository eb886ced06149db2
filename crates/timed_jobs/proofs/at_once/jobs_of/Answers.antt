use Rattle.std.proofs.Common.{◌≡◌, false, arith}
use Rattle.std.proofs.lemmas.Grind.{common_steps}
use Rattle.std.proofs.lemmas.List.Elements.{All-push}
use Rattle.byte_streams.specs.Feed.{FeedState}
use Rattle.cwr_engine.specs.declared.jobs.Job.{Job}
use Rattle.timed_jobs.specs.declared.answers.AckDigest.{AckDigest}
use Rattle.timed_jobs.proofs.at_once.jobs_of.Goals as goal

pub loop-file-preserved : goal.loop-file-preserved
loop-file-preserved c = record {
  count = grind (arith, common_steps);
  works =
      rw c.in_ok-push.ensures.items (All-push (λ (j : Job FeedState AckDigest). (j.reader.has_failed ≡ false) × (j.writer.digest.failed ≡ false)) _ _
      c.loop-file.invariant.works c.job_of.ensures);
}
