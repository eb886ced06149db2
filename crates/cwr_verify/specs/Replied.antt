-- The transactions of a file, and the replies to the first of them.
use Rattle.std.specs.Prelude.{◌≡◌, ℕ, ◌≤◌, List, [], ◌∷◌, ◌++◌, length, map, take, Option, slice_get}
use Rattle.std.specs.List.{AllByRecursion}
use Rattle.cwr_acknowledgement.specs.Acknowledgement.{FitsItem}
use Rattle.cwr_call.specs.CallValue.{CallValue}
use Rattle.cwr_engine.specs.Judged.{JudgedValue, judged_of}
use Rattle.cwr_engine.specs.AckItems.{items_with_replies}
use Rattle.cwr_grammar.specs.RawParts.{RawParts, IsPlaced}
use Rattle.work_registry.specs.EntryValue.{EntryValue}
use Rattle.work_registry.specs.Replay.{calls_of}
use Rattle.work_registry.specs.declared.reply.Reply.{Reply}
use Rattle.cwr_verify.specs.Reading.{asked_in}

-- the transactions of a file, of which the first ones have replies
pub record Replied : Type 0 where
  -- all of them, in file order
  pub transactions : List JudgedValue
  -- the replies to the first of them, in order
  pub replies : List Reply

-- the call of the first transaction that has no reply; `None` where all have one
abbrev pub next_call : Replied → Option CallValue
next_call replied = slice_get (asked_in replied.transactions) (length replied.replies)

-- the same with the reply of this entry for the next transaction
abbrev pub replied_by : EntryValue → Replied → Replied
replied_by entry replied = record { transactions = replied.transactions; replies = replied.replies ++ entry.reply ∷ [] }

-- the transactions are judged ones of one file
pub record AreOfFile (transactions : List JudgedValue) : Type 0 where
  pub submitter : List ℕ
  pub found : List RawParts
  pub judged : transactions ≡ map (judged_of submitter) found
  pub placed : AllByRecursion IsPlaced found

-- there are no more replies than transactions of a file, and what they say fits the lines of an acknowledgement
pub record AreFitting (transactions : List JudgedValue) (replies : List Reply) : Type 0 where
  pub of_file : AreOfFile transactions
  pub few : length replies ≤ length transactions
  pub fit : AllByRecursion FitsItem (items_with_replies transactions replies)

-- these entries have the calls of all transactions, in order, and gave the replies
pub record AreRepliedBy (replied : Replied) (entries : List EntryValue) : Type 0 where
  pub calls : calls_of entries ≡ asked_in replied.transactions
  pub replies : replied.replies ≡ map (λ e. e.reply) entries

-- these entries have the calls of the first transactions, in order, and gave the replies
pub record AreBegunBy (replied : Replied) (entries : List EntryValue) : Type 0 where
  pub calls : calls_of entries ≡ take (length entries) (asked_in replied.transactions)
  pub replies : replied.replies ≡ map (λ e. e.reply) entries
