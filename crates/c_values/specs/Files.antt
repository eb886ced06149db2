-- What becomes of a file that is given as bytes, and whose acknowledgement is returned as bytes.
use Rattle.std.specs.Prelude.{◌≡◌, ℕ, nat_le, false, List, [], ◌++◌, length, Option, Some}
use Rattle.cwr_record.specs.Stamp.{StampParts}
use Rattle.work_registry.specs.EntryValue.{EntryValue}
use Rattle.work_registry.specs.Numbers.{max_entries}
use Rattle.work_registry.specs.Replay.{calls_of, replay}
use Rattle.cwr_engine.specs.Account.{Ends, Account}
use Rattle.cwr_engine.specs.declared.outcome.FileOutcome.{FileOutcome}
use Rattle.c_values.specs.Outcomes.{numbers_of}
use Rattle.c_values.specs.declared.outcome.Outcome.{Outcome}

-- One file was worked, as a session, into a book that had these entries and has the greatest limit: the numbers are
-- those of an outcome, and the account of the job holds of the file, the outcome, the acknowledgement and the entries
-- that its calls get. No read fails, since the file is in memory, and no gate closes. A write fails only where the
-- memory for the acknowledgement is refused.
pub record IsAnswered (stamp : StampParts) (file : List ℕ) (session : ℕ) (before : List EntryValue) (numbers : Outcome) (acknowledgement : List ℕ)
    (made : List EntryValue) : Type 0 where
  pub outcome : FileOutcome
  pub told : numbers ≡ numbers_of outcome
  pub replayed : made ≡ replay session before (calls_of made)
  pub ends : Ends
  pub readable : ends.read_failed ≡ false
  pub full : ends.full ≡ nat_le max_entries (length (before ++ made))
  pub gate : ends.may_shut ≡ false
  pub account : Account ends stamp file outcome acknowledgement made

-- the same with an empty book, and with the stamp that the bytes give
pub record IsAnsweredFirst (stamp : Option StampParts) (file : List ℕ) (numbers : Outcome) (acknowledgement : List ℕ) : Type 0 where
  pub parts : StampParts
  pub stamped : stamp ≡ Some parts
  pub made : List EntryValue
  pub answered : IsAnswered parts file 1 [] numbers acknowledgement made
