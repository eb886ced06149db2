-- The steps of a job, put together.
use Rattle.std.proofs.Common.{◌≡◌, ℕ, false}
use Rattle.byte_streams.specs.declared.sink.Sink.{Ghosts as SinkOf}
use Rattle.byte_streams.specs.declared.source.Source.{Ghosts as SourceOf}
use Rattle.cwr_record.specs.Stamp.{StampParts}
use Rattle.work_registry.specs.BookValue.{BookValue}
use Rattle.cwr_engine.specs.Account.{JobAccount, ends_of, read_ends, write_ends}
use Rattle.cwr_engine.specs.Handing.{IsWorked}
use Rattle.cwr_engine.specs.JobSteps.{entries_at}
use Rattle.cwr_engine.specs.WholeRun.{is_full, IsWorkedAlone}
use Rattle.cwr_engine.specs.declared.jobs.Job.{Job}
use Rattle.cwr_engine.specs.declared.outcome.FileOutcome.{FileOutcome}

-- a job that was worked at a book that nobody else writes
pub worked_alone : {R W : Type 0} (source : SourceOf R) (sink : SinkOf W) (stamp : StampParts) (session : ℕ) (before after : BookValue) (j k : Job R W) (outcome : FileOutcome)
    → after.limit ≡ before.limit
    → IsWorked session (ends_of (read_ends source j.reader k.reader) (write_ends sink j.writer k.writer) (is_full after) false) stamp outcome
    (entries_at session before) (entries_at session after)
    → IsWorkedAlone (JobAccount source sink stamp false) session before after j k outcome
worked_alone source sink stamp session before after j k outcome limit w = record {
  entries = w.made;
  replayed = w.gained.whole.1;
  grown = let is = w.gained.whole.0 in cc;
  limit = limit;
  account = w.account;
}
