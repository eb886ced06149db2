-- What a register holds of files that were sent, and of their acknowledgements.
use Rattle.std.specs.Prelude.{◌≡◌, ℕ, ◌<◌, List, length, Some, slice_index_or}
use Rattle.cwr_record.specs.Stamp.{StampParts}
use Rattle.cwr_engine.specs.Account.{IsAcked}
use Rattle.work_registry.specs.EntryValue.{EntryValue}
use Rattle.cwr_verify.specs.Acknowledged.{stamp_in}
use Rattle.cwr_verify.specs.Sent.{Sent}
use Rattle.cwr_verify.specs.Owned.{owned}

-- These entries answer the file: their calls are those of all its transactions, judged again, in file order, and its
-- acknowledgement is, byte for byte, the text for their replies, with the stamp in its own first line.
pub record IsAnsweredBy (file : Sent) (entries : List EntryValue) : Type 0 where
  pub stamp : StampParts
  pub its_own : stamp_in file.acknowledgement ≡ Some stamp
  pub acked : IsAcked stamp file.text (length entries) file.acknowledgement entries

-- Each entry of the history has one owner: a file, counted from 0, or a number that is that of no file. Each file is
-- answered by the entries that it owns, and by no others.
pub record AreAnswered (owners : List ℕ) (history : List EntryValue) (files : List Sent) : Type 0 where
  -- there is an owner for each entry
  pub each_entry : length owners ≡ length history
  pub each_file : (file : ℕ) (d : Sent) → file < length files → IsAnsweredBy (slice_index_or files file d) (owned file owners history)
