-- What an error says of files that are not verified: which file is the first that is not answered, and why. The
-- questions about a file come in this order: whether its acknowledgement has a stamp, its size, its first fault, the
-- first transaction without an entry, and the first line of its acknowledgement that differs.
use Rattle.std.specs.Prelude.{◌≡◌, ◌⊎◌, ℕ, ◌<◌, List, length, take, Option, Some, None, IfSome, slice_get, slice_index_or, ⊤}
use Rattle.cwr_record.specs.Stamp.{StampParts}
use Rattle.cwr_engine.specs.Account.{IsAcked, IsRefused, max_file_bytes}
use Rattle.cwr_engine.specs.Judged.{JudgedValue}
use Rattle.work_registry.specs.EntryValue.{EntryValue}
use Rattle.work_registry.specs.Replay.{calls_of}
use Rattle.cwr_verify.specs.Acknowledged.{stamp_in}
use Rattle.cwr_verify.specs.Again.{IsJudgedFile}
use Rattle.cwr_verify.specs.Compared.{DiffersAt}
use Rattle.cwr_verify.specs.Owned.{owned}
use Rattle.cwr_verify.specs.Proposed.{AreProposed}
use Rattle.cwr_verify.specs.Reading.{asked_in}
use Rattle.cwr_verify.specs.Sent.{Sent}
use Rattle.cwr_verify.specs.Verified.{IsAnsweredBy}
use Rattle.cwr_verify.specs.declared.verify_error.VerifyError.{VerifyError}
use Rattle.cwr_verify.specs.declared.verify_error.VerifyError.TheVariants.{Memory, TooLong, Refused, Transaction, Acknowledgement}

-- the first line of the file's acknowledgement has a stamp
abbrev pub IsStamped : Sent → Type 0
IsStamped sent = (stamp : StampParts) × (stamp_in sent.acknowledgement ≡ Some stamp)

-- The text is a well-formed file, and the transaction of this group and sequence is the first of it without an entry:
-- the entries have the calls of those before it.
pub record LacksEntry (text : List ℕ) (entries : List EntryValue) (group sequence : ℕ) : Type 0 where
  pub transactions : List JudgedValue
  pub file : IsJudgedFile text transactions
  pub calls : calls_of entries ≡ take (length entries) (asked_in transactions)
  pub transaction : JudgedValue
  pub its : slice_get transactions (length entries) ≡ Some transaction
  pub group_is : transaction.group ≡ group
  pub sequence_is : transaction.sequence ≡ sequence

-- The entries have the calls of all transactions of the file. The text for their replies, with the stamp in the first
-- line of the acknowledgement, is another, and this line of the acknowledgement is the first that differs.
pub record HasOtherLine (sent : Sent) (entries : List EntryValue) (line : ℕ) : Type 0 where
  pub stamp : StampParts
  pub its_own : stamp_in sent.acknowledgement ≡ Some stamp
  pub text : List ℕ
  pub acked : IsAcked stamp sent.text (length entries) text entries
  pub differs : DiffersAt sent.acknowledgement text line

-- what an error says of the file with this number, from 0, and of the entries that it owns
abbrev pub IsToldOf : ℕ → Sent → List EntryValue → VerifyError → Type 0
IsToldOf number sent entries Memory = ⊤
IsToldOf number sent entries (TooLong file) = (file ≡ number) × IsStamped sent × (max_file_bytes < length sent.text)
IsToldOf number sent entries (Refused file fault line) = (file ≡ number) × IsStamped sent × IsRefused sent.text fault line
IsToldOf number sent entries (Transaction file group sequence) = (file ≡ number) × IsStamped sent × LacksEntry sent.text entries group sequence
IsToldOf number sent entries (Acknowledgement file line) = (file ≡ number) × (((stamp_in sent.acknowledgement ≡ None) × (line ≡ 1)) ⊎ HasOtherLine sent entries line)

-- the file that an error names, from 0; `None` where an allocation failed
abbrev pub file_in : VerifyError → Option ℕ
file_in Memory = None
file_in (TooLong file) = Some file
file_in (Refused file fault line) = Some file
file_in (Transaction file group sequence) = Some file
file_in (Acknowledgement file line) = Some file

-- This is the first of the files that is not answered by the entries that it owns, and what the error says of it is
-- true. Each file before it is answered by its entries.
pub record IsFirstUnanswered (history : List EntryValue) (files : List Sent) (told : VerifyError) (file : ℕ) : Type 0 where
  pub within : file < length files
  -- the owner of each entry
  pub owners : List ℕ
  pub proposed : AreProposed files history owners
  pub before : (other : ℕ) (d : Sent) → other < file → IsAnsweredBy (slice_index_or files other d) (owned other owners history)
  pub its : (d : Sent) → IsToldOf file (slice_index_or files file d) (owned file owners history) told

-- the files are not answered by this history, and the error says which is the first, and why; or an allocation failed
abbrev pub IsUnverified : List EntryValue → List Sent → VerifyError → Type 0
IsUnverified history files told = IfSome (file_in told) (IsFirstUnanswered history files told)
