-- The account of a job: the relation between its input, its outcome, the bytes that it wrote and the entries that it
-- made.
use Rattle.std.specs.Prelude.{◌≡◌, ℕ, ◌+◌, ◌≤◌, ◌<◌, Bool, true, List, [], length, take, Option, Some, None, ⊤}
use Rattle.std.specs.Io.KnownBytes.{Appends}
use Rattle.std.specs.Str.Lines.{lines}
use Rattle.byte_streams.specs.GivenBytes.{HasGiven}
use Rattle.byte_streams.specs.declared.sink.Sink.{Ghosts as SinkOf}
use Rattle.byte_streams.specs.declared.source.Source.{Ghosts as SourceOf}
use Rattle.cwr_record.specs.Layout.{StandsFor}
use Rattle.cwr_record.specs.Stamp.{StampParts}
use Rattle.cwr_record.specs.Control as table
use Rattle.cwr_record.specs.declared.control.Header.{Header}
use Rattle.cwr_acknowledgement.specs.Acknowledgement.{ack_text}
use Rattle.cwr_grammar.specs.Faults.{IsLeastFault}
use Rattle.cwr_grammar.specs.File.{File, IsFile}
use Rattle.cwr_grammar.specs.RawParts.{RawParts, raws_of}
use Rattle.work_registry.specs.EntryValue.{EntryValue}
use Rattle.work_registry.specs.Replay.{calls_of}
use Rattle.cwr_engine.specs.Items.{items_of, calls_in}
use Rattle.cwr_engine.specs.declared.jobs.Job.{Job}
use Rattle.cwr_engine.specs.declared.outcome.FileOutcome.{FileOutcome}
use Rattle.cwr_engine.specs.declared.outcome.FileOutcome.TheVariants.{Acked, Refused, Stopped}
use Rattle.cwr_engine.specs.declared.outcome.Why.{Why}
use Rattle.cwr_engine.specs.declared.outcome.Why.TheVariants.{Memory, Full, Read, TooLong, Gate, Write}

-- the greatest number of bytes of a file: 16 MiB
abbrev pub max_file_bytes : ℕ
max_file_bytes = 16777216

-- What a job shows of its surroundings: its reader and its writer before and after it, the history, and the gate.
-- Bytes are `None` where the type of the reader or writer does not give them.
pub record Ends : Type 0 where
  -- the bytes that were left to the reader before the job
  pub left_before : Option (List ℕ)
  -- the bytes that are left to it after the job
  pub left_after : Option (List ℕ)
  -- the number of reads before the job
  pub reads_before : ℕ
  -- the number of reads after it, those before included
  pub reads_after : ℕ
  -- the bytes that the writer had taken before the job
  pub taken_before : Option (List ℕ)
  -- the bytes that it has taken after the job, those before included
  pub taken_after : Option (List ℕ)
  -- a read failed
  pub read_failed : Bool
  -- a write failed, or took nothing
  pub write_failed : Bool
  -- the history holds its limit of entries
  pub full : Bool
  -- the gate may close
  pub may_shut : Bool

-- the part of `Ends` that the reader shows
pub record ReadEnds : Type 0 where
  pub left_before : Option (List ℕ)
  pub left_after : Option (List ℕ)
  pub reads_before : ℕ
  pub reads_after : ℕ
  pub read_failed : Bool

-- the part of `Ends` that the writer shows
pub record WriteEnds : Type 0 where
  pub taken_before : Option (List ℕ)
  pub taken_after : Option (List ℕ)
  pub write_failed : Bool

-- the text is a well-formed file of at most 16,777,216 bytes, with this header and these transactions in file order
pub record IsRead (input : List ℕ) (head : Header) (transactions : List RawParts) : Type 0 where
  pub fits : length input ≤ max_file_bytes
  pub file : File
  pub formed : IsFile (lines input) file
  pub header : StandsFor table.header file.header head
  -- the transactions of all groups, in file order
  pub found : transactions ≡ raws_of 1 file.groups

-- the calls of these entries are those of the first transactions of a file, in file order
pub record IsMadeOf (input : List ℕ) (made : List EntryValue) : Type 0 where
  pub head : Header
  pub transactions : List RawParts
  pub read : IsRead input head transactions
  -- there are as many calls as entries
  pub calls : calls_of made ≡ take (length made) (calls_in head.sender transactions)

-- the calls of these entries are those of the first transactions of a file, and a further transaction follows these
pub record IsMadeOfSome (input : List ℕ) (made : List EntryValue) : Type 0 where
  pub part : IsMadeOf input made
  -- the file has more transactions
  pub further : length made < length part.transactions

-- the text has at most 16,777,216 bytes, and this is its first fault: number and line, from 1
pub record IsRefused (input : List ℕ) (fault line : ℕ) : Type 0 where
  pub fits : length input ≤ max_file_bytes
  pub first : IsLeastFault (lines input) line fault

-- the calls of these entries are those of all transactions of a file, in file order
pub record IsMadeOfAll (input : List ℕ) (made : List EntryValue) : Type 0 where
  pub head : Header
  pub transactions : List RawParts
  pub read : IsRead input head transactions
  pub calls : calls_of made ≡ calls_in head.sender transactions

-- the acknowledgement of a file for the replies in these entries
abbrev pub answer_of : {input : List ℕ} → StampParts → (made : List EntryValue) → IsMadeOfAll input made → List ℕ
answer_of stamp made whole = ack_text stamp whole.head (items_of whole.transactions made)

-- all transactions were handed in and got replies, and what was written is their acknowledgement
pub record IsAcked (stamp : StampParts) (input : List ℕ) (count : ℕ) (written : List ℕ) (made : List EntryValue) : Type 0 where
  pub whole : IsMadeOfAll input made
  pub transaction_count : count ≡ length made
  pub text : written ≡ answer_of stamp made whole

-- all transactions were handed in and got replies, and of their acknowledgement the first `sent` bytes were written,
-- fewer than all, since a write failed or took nothing
pub record IsCutOff (failed : Bool) (stamp : StampParts) (input : List ℕ) (sent : ℕ) (written : List ℕ) (made : List EntryValue) : Type 0 where
  pub whole : IsMadeOfAll input made
  -- a write failed, or took nothing
  pub stopped : failed ≡ true
  pub fewer : sent < length (answer_of stamp made whole)
  -- the first bytes of the acknowledgement
  pub front : written ≡ take sent (answer_of stamp made whole)

-- why a job stopped, and what is then true of its input, the bytes that it wrote and the entries that it made before
abbrev pub StoppedBy : Ends → StampParts → List ℕ → Why → List ℕ → List EntryValue → Type 0
StoppedBy ends stamp input Memory written made = (written ≡ []) × (0 < length made → IsMadeOf input made)
StoppedBy ends stamp input Full written made = (written ≡ []) × IsMadeOfSome input made × (ends.full ≡ true)
StoppedBy ends stamp input Read written made = (written ≡ []) × (made ≡ []) × (ends.read_failed ≡ true)
StoppedBy ends stamp input TooLong written made = (written ≡ []) × (made ≡ []) × (max_file_bytes < length input)
StoppedBy ends stamp input Gate written made = (written ≡ []) × IsMadeOfSome input made × (ends.may_shut ≡ true)
StoppedBy ends stamp input (Write sent) written made = IsCutOff ends.write_failed stamp input sent written made

-- The account of a job, by its outcome: acknowledged, refused, or stopped. `made` are the entries that it made, in
-- order.
abbrev pub Account : Ends → StampParts → List ℕ → FileOutcome → List ℕ → List EntryValue → Type 0
Account ends stamp input (Acked count) written made = IsAcked stamp input count written made
Account ends stamp input (Refused fault line) written made = IsRefused input fault line × (written ≡ []) × (made ≡ [])
Account ends stamp input (Stopped handed why) written made = (handed ≡ length made) × StoppedBy ends stamp input why written made

-- these are the bytes that were left to a reader, where they are known
abbrev pub Gives : Option (List ℕ) → List ℕ → Type 0
Gives None input = ⊤
Gives (Some bytes) input = input ≡ bytes

-- the account of a job, for what it shows of its reader, writer, history and gate
pub record IsAccount (ends : Ends) (stamp : StampParts) (outcome : FileOutcome) (made : List EntryValue) : Type 0 where
  pub input : List ℕ
  pub written : List ℕ
  -- the input is what was left to the reader, where that is known
  pub given : Gives ends.left_before input
  -- what was not read is left to the reader
  pub read_on : HasGiven ends.left_before ends.left_after
  -- at most 16,777,218 reads were made
  pub few_reads : ends.reads_after ≤ ends.reads_before + max_file_bytes + 2
  -- `written` came behind what the writer had taken
  pub appended : Appends ends.taken_before ends.taken_after written
  pub account : Account ends stamp input outcome written made

-- what a reader shows of a job, given how it was and how it is, by its trait
abbrev pub read_ends : {R : Type 0} → SourceOf R → R → R → ReadEnds
read_ends source before after = record {
  left_before = source.left before;
  left_after = source.left after;
  reads_before = source.reads before;
  reads_after = source.reads after;
  read_failed = source.has_failed after;
}

-- what a writer shows of a job, given how it was and how it is, by its trait
abbrev pub write_ends : {W : Type 0} → SinkOf W → W → W → WriteEnds
write_ends sink before after = record {
  taken_before = sink.taken before;
  taken_after = sink.taken after;
  write_failed = sink.has_failed after;
}

-- what a job shows, given what its reader and its writer show, whether the history holds its limit of entries, and
-- whether the gate may close
abbrev pub ends_of : ReadEnds → WriteEnds → Bool → Bool → Ends
ends_of reader writer full may_shut = record {
  left_before = reader.left_before;
  left_after = reader.left_after;
  reads_before = reader.reads_before;
  reads_after = reader.reads_after;
  taken_before = writer.taken_before;
  taken_after = writer.taken_after;
  read_failed = reader.read_failed;
  write_failed = writer.write_failed;
  full = full;
  may_shut = may_shut;
}

-- The account of a job, given how it was and how it is. `source` and `sink` are what the traits of its reader and its
-- writer say of one, so that it serves every kind of reader and writer.
abbrev pub JobAccount : {R W : Type 0} → SourceOf R → SinkOf W → StampParts → Bool → Job R W → Job R W → FileOutcome → Bool → List EntryValue → Type 0
JobAccount source sink stamp may_shut before after outcome full made =
    IsAccount (ends_of (read_ends source before.reader after.reader) (write_ends sink before.writer after.writer) full may_shut) stamp outcome made
