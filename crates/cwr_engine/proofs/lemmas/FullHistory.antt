-- The history in the account of a job: whether it was full.
use Rattle.std.proofs.Common.{◌≡◌, ℕ, Bool, true, List, Option}
use Rattle.cwr_record.specs.Stamp.{StampParts}
use Rattle.work_registry.specs.EntryValue.{EntryValue}
use Rattle.cwr_engine.specs.Account.{Ends, Account, IsAccount}
use Rattle.cwr_engine.specs.Causes.{ends_full}
use Rattle.cwr_engine.specs.declared.outcome.FileOutcome.{FileOutcome}
use Rattle.cwr_engine.specs.declared.outcome.FileOutcome.TheVariants.{Acked, Refused, Stopped}
use Rattle.cwr_engine.specs.declared.outcome.Why.TheVariants.{Memory, Full, Read, TooLong, Gate, Write}

-- an account of a time at which the history was full is one of any later time
module _ (left rest before after : Option (List ℕ)) (reads more : ℕ) (read_failed write_failed may_shut : Bool) where
  abbrev ends_by : Bool → Ends
  ends_by full = record {
    left_before = left;
    left_after = rest;
    reads_before = reads;
    reads_after = more;
    taken_before = before;
    taken_after = after;
    read_failed = read_failed;
    write_failed = write_failed;
    full = full;
    may_shut = may_shut;
  }

  pub account_full : (a b : Bool) (stamp : StampParts) (o : FileOutcome) (made : List EntryValue) → (a ≡ true → b ≡ true)
      → IsAccount (ends_by a) stamp o made → IsAccount (ends_by b) stamp o made
  account_full a b stamp o made h r =
      record { input = r.input; written = r.written; given = r.given; read_on = r.read_on; few_reads = r.few_reads; appended = r.appended; account = by o r.account } where
        by : (o : FileOutcome) → Account (ends_by a) stamp r.input o r.written made → Account (ends_by b) stamp r.input o r.written made
        by (Acked n) x = x
        by (Refused fault line) x = x
        by (Stopped n Memory) x = x
        by (Stopped n Full) x = (x.0, (x.1.0, x.1.1, h x.1.2))
        by (Stopped n Gate) x = x
        by (Stopped n Read) x = x
        by (Stopped n TooLong) x = x
        by (Stopped n (Write sent)) x = x

-- a job that was stopped for a full book found the history full
pub account_found : (ends : Ends) (stamp : StampParts) (o : FileOutcome) (made : List EntryValue) → ends_full o ≡ true → IsAccount ends stamp o made → ends.full ≡ true
account_found ends stamp o made stopped r = by o stopped r.account where
  by : (o : FileOutcome) → ends_full o ≡ true → Account ends stamp r.input o r.written made → ends.full ≡ true
  by (Acked n) e x = absurd cc
  by (Refused fault line) e x = absurd cc
  by (Stopped n Memory) e x = absurd cc
  by (Stopped n Full) e x = x.1.2
  by (Stopped n Gate) e x = absurd cc
  by (Stopped n Read) e x = absurd cc
  by (Stopped n TooLong) e x = absurd cc
  by (Stopped n (Write sent)) e x = absurd cc
