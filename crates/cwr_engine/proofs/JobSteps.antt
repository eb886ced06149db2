-- What the first step of a job and the calls of the second make of it.
use Rattle.std.proofs.Common.{◌≡◌, ℕ, Bool, false, List, [], Result, Ok, Err, IfOk, IfErr, subst, sym}
use Rattle.std.specs.Io.KnownBytes.{Appends}
use Rattle.byte_streams.specs.declared.sink.Sink.{Ghosts as SinkOf}
use Rattle.byte_streams.specs.declared.source.Source.{Ghosts as SourceOf}
use Rattle.cwr_grammar.specs.RawParts.{RawParts}
use Rattle.cwr_record.specs.Stamp.{StampParts}
use Rattle.cwr_record.specs.declared.control.Header.{Header}
use Rattle.cwr_source.specs.Input.{IsInput}
use Rattle.cwr_source.specs.declared.refused.SourceRefused.{SourceRefused}
use Rattle.cwr_engine.specs.Account.{max_file_bytes, ReadEnds, WriteEnds, ends_of, read_ends, write_ends}
use Rattle.cwr_engine.specs.Causes.{outcome_of}
use Rattle.cwr_engine.specs.Handing.{Entries, IsWorked}
use Rattle.cwr_engine.specs.Judged.{AreJudged, JudgedValue, WasJudged}
use Rattle.cwr_engine.specs.JobSteps.{IsReadBy, IsAnsweredWhole, WasRead, WasDecided}
use Rattle.cwr_engine.specs.declared.answered.AnsweredFile.{AnsweredFile}
use Rattle.cwr_engine.specs.declared.jobs.Job.{Job}
use Rattle.cwr_engine.specs.declared.judged.JudgedFile.{JudgedFile}
use Rattle.cwr_engine.specs.declared.outcome.FileOutcome.{FileOutcome}
use Rattle.cwr_engine.specs.declared.steps.ReadJob.{ReadJob}
use Rattle.cwr_engine.proofs.Accounts.{Appends-nil, not_judged, read_whole, within}

module _ {R W Z : Type 0} (source : SourceOf R) (sink : SinkOf W) (session : ℕ) (job : Job R W) (read : ReadJob R W Z) (was : WasRead source job read) (full : Bool)
    (entries : Entries) where
  -- nothing was written
  unwritten : Appends (sink.taken job.writer) (sink.taken read.job.writer) []
  unwritten = subst (λ w. Appends (sink.taken job.writer) (sink.taken w) []) (sym was.writer) (Appends-nil (sink.taken job.writer))

  -- its file was read whole
  read_whole_by : {head : Header} {all : List JudgedValue} (judged : (input : List ℕ) × IsInput max_file_bytes (source.left job.reader) input × WasJudged input head all)
      → IsReadBy (read_ends source job.reader read.job.reader) judged.0 head judged.2.transactions
  read_whole_by judged =
      record { given = judged.1.1; read_on = was.read_on; few_reads = was.few_reads; read = read_whole _ _ _ judged.1.0 judged.2 }

  -- its file was judged, and handed in
  pub was_handed_in : (after : Entries) (file : JudgedFile Z) → read.file ≡ Ok file → (made : Result (AnsweredFile Z) FileOutcome)
      → IfOk made (λ all. (ts : List RawParts) → AreJudged max_file_bytes file.header ts file.transactions.items → IsAnsweredWhole session file.header ts all entries after)
      → IfErr made (λ outcome. (ts : List RawParts) (reader : ReadEnds) (writer : WriteEnds) (stamp : StampParts) (input : List ℕ)
      → AreJudged max_file_bytes file.header ts file.transactions.items → IsReadBy reader input file.header ts → Appends writer.taken_before writer.taken_after []
      → IsWorked session (ends_of reader writer full false) stamp outcome entries after)
      → WasDecided source sink session job (record { job = read.job; file = made }) full entries after
  was_handed_in after file is made all some = by (rw is at was.judged) made all some where
    by : (input : List ℕ) × IsInput max_file_bytes (source.left job.reader) input × WasJudged input file.header file.transactions.items → (m : Result (AnsweredFile Z) FileOutcome)
        → IfOk m (λ all. (ts : List RawParts) → AreJudged max_file_bytes file.header ts file.transactions.items → IsAnsweredWhole session file.header ts all entries after)
        → IfErr m (λ outcome. (ts : List RawParts) (reader : ReadEnds) (writer : WriteEnds) (stamp : StampParts) (input : List ℕ)
        → AreJudged max_file_bytes file.header ts file.transactions.items → IsReadBy reader input file.header ts → Appends writer.taken_before writer.taken_after []
        → IsWorked session (ends_of reader writer full false) stamp outcome entries after)
        → WasDecided source sink session job (record { job = read.job; file = m }) full entries after
    by judged (Ok f) all some = record {
      writer = was.writer;
      answered = (file.header, judged.0, judged.2.transactions, read_whole_by judged, all judged.2.transactions (within _ _ _ judged.1.0 judged.2));
      ended = tt;
    }
    by judged (Err o) all some = record {
      writer = was.writer;
      answered = tt;
      ended = λ stamp. some judged.2.transactions _ (write_ends sink job.writer read.job.writer) stamp judged.0 (within _ _ _ judged.1.0 judged.2) (read_whole_by judged) unwritten;
    }

  -- its file was not judged
  pub was_not_judged : (why : SourceRefused) → read.file ≡ Err why
      → WasDecided {Z = Z} source sink session job (record { job = read.job; file = Err (outcome_of why) }) full entries entries
  was_not_judged why is = record {
    writer = was.writer;
    answered = tt;
    ended = λ stamp. not_judged session (ends_of (read_ends source job.reader read.job.reader) (write_ends sink job.writer read.job.writer) full false) stamp entries
        unwritten was.read_on was.few_reads why (rw is at was.refused);
  }
