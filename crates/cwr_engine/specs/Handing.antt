-- Transactions that are handed in at a `Submit`: which entries of its session, and of the history, they add.
use Rattle.std.specs.Prelude.{◌≡◌, ◌<◌, ℕ, Bool, true, List, [], ◌∷◌, ◌++◌, length, take, Option, Some, None, ⊤}
use Rattle.std.specs.Io.KnownBytes.{Appends}
use Rattle.cwr_acknowledgement.specs.AckItem.{Item}
use Rattle.cwr_acknowledgement.specs.Acknowledgement.{FitsItem, max_ack_records}
use Rattle.cwr_grammar.specs.RawParts.{RawParts}
use Rattle.cwr_record.specs.Stamp.{StampParts}
use Rattle.cwr_rules.specs.Calls.{call_of}
use Rattle.work_registry.specs.EntryValue.{EntryValue, entry_of}
use Rattle.work_registry.specs.Replay.{calls_of, replay}
use Rattle.work_registry.specs.declared.reply.Reply.{Reply}
use Rattle.cwr_engine.specs.Account.{Ends, IsAccount}
use Rattle.cwr_engine.specs.Items.{item_of, items_of, calls_in}
use Rattle.cwr_engine.specs.declared.outcome.FileOutcome.{FileOutcome}
use Rattle.cwr_engine.specs.declared.outcome.FileOutcome.TheVariants.{Acked, Refused, Stopped}
use Rattle.cwr_engine.specs.declared.outcome.Why.TheVariants.{Memory, Full, Read, TooLong, Gate, Write}

-- the greatest number of transactions that a job hands in: that which its acknowledgement can hold
abbrev pub max_handed : ℕ
max_handed = max_ack_records

-- A history that nobody else writes, where it is known, has grown by what these entries' calls get when they are
-- handed in one after another. Of a history that others write too nothing is said.
abbrev pub Follows : ℕ → Option (List EntryValue) → Option (List EntryValue) → List EntryValue → Type 0
Follows session None after made = ⊤
Follows session (Some history) after made = (after ≡ Some (history ++ made)) × (made ≡ replay session history (calls_of made))

-- what a `Submit` shows of the entries: those of its session, in order, and the whole history, where nobody else
-- writes it
pub record Entries : Type 0 where
  -- the entries of its session
  pub list : List EntryValue
  -- the whole history, where nobody else writes it
  pub whole : Option (List EntryValue)

-- a `Submit` has gained these entries of its session, and no others
pub record HasGained (session : ℕ) (made : List EntryValue) (before after : Entries) : Type 0 where
  pub list : after.list ≡ before.list ++ made
  pub whole : Follows session before.whole after.whole made

-- a transaction was handed in and got a reply, which the item reports
pub record IsAnswered (session : ℕ) (submitter : List ℕ) (transaction : RawParts) (item : Item) (before after : Entries) : Type 0 where
  pub reply : Reply
  pub gained : HasGained session (entry_of session (call_of submitter transaction) reply ∷ []) before after
  pub told : item ≡ item_of transaction (entry_of session (call_of submitter transaction) reply)
  -- its numbers fit the lines of an acknowledgement
  pub fits : FitsItem item

-- the first transactions, as many as there are items, were handed in and got replies, in order
pub record AreAnswered (session : ℕ) (submitter : List ℕ) (transactions : List RawParts) (items : List Item) (before after : Entries) : Type 0 where
  pub made : List EntryValue
  pub gained : HasGained session made before after
  pub calls : calls_of made ≡ take (length made) (calls_in submitter transactions)
  pub told : items ≡ items_of transactions made
  pub count : length items ≡ length made

-- a job was worked at a `Submit`: its account holds with the entries that the `Submit` has gained
pub record IsWorked (session : ℕ) (ends : Ends) (stamp : StampParts) (outcome : FileOutcome) (before after : Entries) : Type 0 where
  pub made : List EntryValue
  pub gained : HasGained session made before after
  pub account : IsAccount ends stamp outcome made

-- how a job ends whose `count` transactions all got replies: the text that acknowledges them was written whole; or an
-- allocation failed, and nothing was written; or a write failed, and its first bytes were written
abbrev pub IsSent : Option (List ℕ) → Option (List ℕ) → Bool → List ℕ → ℕ → FileOutcome → Type 0
IsSent before after failed text count (Acked n) = (n ≡ count) × Appends before after text
IsSent before after failed text count (Refused fault line) = ⊥
IsSent before after failed text count (Stopped n Memory) = (n ≡ count) × Appends before after []
IsSent before after failed text count (Stopped n Full) = ⊥
IsSent before after failed text count (Stopped n Read) = ⊥
IsSent before after failed text count (Stopped n TooLong) = ⊥
IsSent before after failed text count (Stopped n Gate) = ⊥
IsSent before after failed text count (Stopped n (Write sent)) =
    (n ≡ count) × Appends before after (take sent text) × (sent < length text) × (failed ≡ true)
