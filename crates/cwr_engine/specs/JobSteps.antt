-- A job in three steps, at a book that nobody else writes: its file is read and judged, its transactions are decided,
-- and it is acknowledged.
use Rattle.std.specs.Prelude.{◌≡◌, ℕ, ◌+◌, ◌≤◌, Bool, false, List, length, Some, IfSome, IfOk, IfErr}
use Rattle.byte_streams.specs.GivenBytes.{HasGiven}
use Rattle.byte_streams.specs.declared.sink.Sink.{Ghosts as SinkOf}
use Rattle.byte_streams.specs.declared.source.Source.{Ghosts as SourceOf}
use Rattle.cwr_acknowledgement.specs.AckItem.{Item}
use Rattle.cwr_grammar.specs.RawParts.{RawParts}
use Rattle.cwr_record.specs.Stamp.{StampParts}
use Rattle.cwr_record.specs.declared.control.Header.{Header}
use Rattle.cwr_source.specs.Input.{IsInput, IsUnjudged}
use Rattle.work_registry.specs.BookValue.{BookValue}
use Rattle.work_registry.specs.Replay.{made}
use Rattle.cwr_engine.specs.Account.{max_file_bytes, ReadEnds, IsRead, ends_of, read_ends, write_ends}
use Rattle.cwr_engine.specs.Handing.{Entries, AreAnswered, IsWorked}
use Rattle.cwr_engine.specs.Judged.{WasJudged}
use Rattle.cwr_engine.specs.AckItems.{items_with_replies}
use Rattle.cwr_engine.specs.declared.answered.AnsweredFile.{AnsweredFile}
use Rattle.cwr_engine.specs.declared.jobs.Job.{Job}
use Rattle.cwr_engine.specs.declared.outcome.FileOutcome.{FileOutcome}
use Rattle.cwr_engine.specs.declared.steps.ReadJob.{ReadJob}
use Rattle.cwr_engine.specs.declared.steps.DecidedJob.{DecidedJob}

-- The text is what was left to a reader, where that is known: a well-formed file with this header and these
-- transactions. It was read in few reads, and what was not read is left.
pub record IsReadBy (reader : ReadEnds) (input : List ℕ) (head : Header) (transactions : List RawParts) : Type 0 where
  pub given : IfSome reader.left_before (λ bytes. input ≡ bytes)
  pub read_on : HasGiven reader.left_before reader.left_after
  pub few_reads : reader.reads_after ≤ reader.reads_before + max_file_bytes + 2
  pub read : IsRead input head transactions

-- The first step. The file of a job was read and is judged, or there is an error that says why not; the writer is as
-- it was.
pub record WasRead {R W Z : Type 0} (source : SourceOf R) (before : Job R W) (after : ReadJob R W Z) : Type 0 where
  pub writer : after.job.writer ≡ before.writer
  pub read_on : HasGiven (source.left before.reader) (source.left after.job.reader)
  pub few_reads : source.reads after.job.reader ≤ source.reads before.reader + max_file_bytes + 2
  -- where the file is well-formed, its header and its judged transactions
  pub judged : IfOk after.file (λ f. (input : List ℕ) × IsInput max_file_bytes (source.left before.reader) input × WasJudged input f.header f.transactions.items)
  -- else why it was not judged
  pub refused : IfErr after.file (IsUnjudged max_file_bytes (source.left before.reader) (source.has_failed after.job.reader))

-- the items of the acknowledgement of a file whose transactions got these replies
abbrev pub answers_in : {Z : Type 0} → AnsweredFile Z → List Item
answers_in file = items_with_replies file.transactions.items file.replies.items

-- each of these transactions under this header was handed in and got its reply, in order
pub record IsAnsweredWhole {Z : Type 0} (session : ℕ) (head : Header) (transactions : List RawParts) (file : AnsweredFile Z) (before after : Entries) : Type 0 where
  pub header : file.header ≡ head
  pub answered : AreAnswered session head.sender transactions (answers_in file) before after
  -- there is an item for each transaction
  pub all : length (answers_in file) ≡ length transactions

-- the entries that a book which nobody else writes shows to a session
abbrev pub entries_at : ℕ → BookValue → Entries
entries_at session book = record { list = made book.history session; whole = Some book.history }

-- The second step. Each transaction of a job's file was handed in and got its reply, and nothing is written yet; or the
-- job has ended, and nothing is to be written.
pub record WasDecided {R W Z : Type 0} (source : SourceOf R) (sink : SinkOf W) (session : ℕ) (before : Job R W) (after : DecidedJob R W Z) (full : Bool)
    (entries entries_after : Entries) : Type 0 where
  pub writer : after.job.writer ≡ before.writer
  -- where all transactions got their replies
  pub answered : IfOk after.file (λ f. (head : Header) × (input : List ℕ) × (transactions : List RawParts)
      × IsReadBy (read_ends source before.reader after.job.reader) input head transactions
      × IsAnsweredWhole session head transactions f entries entries_after)
  -- where the job has ended, it has its account
  pub ended : IfErr after.file (λ outcome. (stamp : StampParts)
      → IsWorked session (ends_of (read_ends source before.reader after.job.reader) (write_ends sink before.writer after.job.writer) full false)
      stamp outcome entries entries_after)

-- The third step. Whichever job was decided, and whichever entries it made, its account holds with them.
abbrev pub HasAnswered : {R W Z : Type 0} → SourceOf R → SinkOf W → StampParts → DecidedJob R W Z → Job R W → FileOutcome → Type 0
HasAnswered {R} {W} {Z} source sink stamp decided after outcome =
    (session : ℕ) (job : Job R W) (full : Bool) (entries entries_after : Entries) → WasDecided source sink session job decided full entries entries_after
    → IsWorked session (ends_of (read_ends source job.reader after.reader) (write_ends sink job.writer after.writer) full false)
    stamp outcome entries entries_after
