use Rattle.std.proofs.Common.{◌≡◌, false, arith}
use Rattle.std.proofs.lemmas.Grind.{common_steps}
use Rattle.std.proofs.lemmas.List.Elements.{All-push}
use Rattle.byte_streams.specs.Feed.{FeedState}
use Rattle.byte_streams.specs.Room.{RoomState}
use Rattle.cwr_engine.specs.declared.jobs.Job.{Job}
use Rattle.test_jobs.proofs.jobs.jobs_of.Goals as goal

pub loop-input-preserved : goal.loop-input-preserved
loop-input-preserved c = record {
  count = grind (arith, common_steps);
  works =
      rw c.in_ok-push.ensures.items (All-push (λ (j : Job FeedState RoomState). (j.reader.has_failed ≡ false) × (j.writer.has_failed ≡ false)) _ _
      c.loop-input.invariant.works c.in_ok-job.ensures);
}
