-- A file that is acknowledged again, from the history in which its transactions have entries.
use Rattle.std.specs.Prelude.{◌≡◌, ℕ, ◌+◌, ◌<◌, ◌≤◌, Bool, true, false, List, length, take, drop, slice_get, Option, Some, ⊤}
use Rattle.std.specs.Io.KnownBytes.{Appends}
use Rattle.cwr_record.specs.Stamp.{StampParts}
use Rattle.cwr_record.specs.declared.control.Header.{Header}
use Rattle.cwr_engine.specs.Account.{IsAcked, IsCutOff, IsRefused, WriteEnds, max_file_bytes}
use Rattle.cwr_engine.specs.Judged.{JudgedValue, WasJudged}
use Rattle.work_registry.specs.EntryValue.{EntryValue}
use Rattle.work_registry.specs.Replay.{calls_of}
use Rattle.cwr_verify.specs.Reading.{asked_in}
use Rattle.cwr_verify.specs.Run.{HasRun, IsFront, IsNamed, IsRunFrom}
use Rattle.cwr_verify.specs.declared.no_answer.NoAnswer.{NoAnswer}
use Rattle.cwr_verify.specs.declared.no_answer.NoAnswer.TheVariants.{Memory, TooLong, Refused, OtherEntry, Transaction, Write}

-- the text is a well-formed file of at most 16,777,216 bytes, and these are its judged transactions
pub record IsJudgedFile (input : List ℕ) (transactions : List JudgedValue) : Type 0 where
  pub fits : length input ≤ max_file_bytes
  pub head : Header
  pub was : WasJudged input head transactions

-- What was written is the acknowledgement of the file, with this stamp, for the replies of the entries of its run:
-- their calls are those of all its transactions, judged again, in file order.
pub record IsAnsweredAgain (stamp : StampParts) (input : List ℕ) (entry : Option ℕ) (history : List EntryValue) (ends : WriteEnds) : Type 0 where
  -- the entries of the file
  pub run : List EntryValue
  -- they are the run of their calls, from the named entry or from the last place
  pub its : IsRunFrom entry (calls_of run) history run
  pub written : List ℕ
  pub appended : Appends ends.taken_before ends.taken_after written
  pub acked : IsAcked stamp input (length run) written run

-- the same, but only its first `sent` bytes were written, since a write failed
pub record IsCutAgain (stamp : StampParts) (input : List ℕ) (entry : Option ℕ) (history : List EntryValue) (ends : WriteEnds) (sent : ℕ) : Type 0 where
  -- the entries of the file
  pub run : List EntryValue
  pub its : IsRunFrom entry (calls_of run) history run
  pub written : List ℕ
  pub appended : Appends ends.taken_before ends.taken_after written
  pub cut : IsCutOff ends.write_failed stamp input sent written run

-- an entry was named, and it is not in the history, or does not have the call of the file's first transaction
pub record IsOtherEntry (input : List ℕ) (entry : Option ℕ) (history : List EntryValue) : Type 0 where
  pub transactions : List JudgedValue
  pub file : IsJudgedFile input transactions
  -- the number of the entry that was named, from 1
  pub number : ℕ
  pub named : entry ≡ Some number
  pub none : (place : ℕ) → IsNamed number (asked_in transactions) history place → ⊥

-- The transaction of this group and sequence is the first without an entry: entries have the calls of those before it,
-- and none have those of the transactions up to it; in the whole history, or from the named entry on.
pub record IsUnanswered (input : List ℕ) (entry : Option ℕ) (history : List EntryValue) (group sequence : ℕ) : Type 0 where
  pub transactions : List JudgedValue
  pub file : IsJudgedFile input transactions
  -- the place in the history, from 0, from which entries are looked for
  pub place : ℕ
  -- where that is: at the named entry, else at the start
  pub front : IsFront entry (asked_in transactions) history place
  -- the number of transactions before it
  pub before : ℕ
  pub transaction : JudgedValue
  -- the first transaction without an entry
  pub its : slice_get transactions before ≡ Some transaction
  pub group_is : transaction.group ≡ group
  pub sequence_is : transaction.sequence ≡ sequence
  pub some : HasRun (take before (asked_in transactions)) (drop place history)
  pub none : HasRun (take (before + 1) (asked_in transactions)) (drop place history) → ⊥

-- why a file was not acknowledged again
abbrev pub IsWhyNot : StampParts → List ℕ → Option ℕ → List EntryValue → WriteEnds → NoAnswer → Type 0
IsWhyNot stamp input entry history ends Memory = ⊤
IsWhyNot stamp input entry history ends TooLong = max_file_bytes < length input
IsWhyNot stamp input entry history ends (Refused number line) = IsRefused input number line
IsWhyNot stamp input entry history ends OtherEntry = IsOtherEntry input entry history
IsWhyNot stamp input entry history ends (Transaction group sequence) = IsUnanswered input entry history group sequence
IsWhyNot stamp input entry history ends (Write sent) = IsCutAgain stamp input entry history ends sent

-- a text was not sent whole: an allocation failed, and nothing was written; or a write failed, and its first bytes
-- were written
abbrev pub IsSentInPart : WriteEnds → List ℕ → NoAnswer → Type 0
IsSentInPart ends text Memory = ⊤
IsSentInPart ends text (Write sent) = Appends ends.taken_before ends.taken_after (take sent text) × (sent < length text) × (ends.write_failed ≡ true)
IsSentInPart ends text _ = ⊥

-- part of the acknowledgement may have been written
abbrev pub is_cut : NoAnswer → Bool
is_cut (Write sent) = true
is_cut _ = false
