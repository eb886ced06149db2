-- What an acknowledgement contains of a transaction and of the entry that answers it.
use Rattle.std.specs.Prelude.{ℕ, List, [], ◌∷◌, map}
use Rattle.cwr_acknowledgement.specs.AckItem.{Item}
use Rattle.cwr_grammar.specs.RawParts.{RawParts}
use Rattle.cwr_call.specs.CallValue.{CallValue}
use Rattle.cwr_rules.specs.Calls.{call_of}
use Rattle.work_registry.specs.EntryValue.{EntryValue}
use Rattle.work_registry.specs.ReplyParts.{status_in, work_in}

-- the item of an acknowledgement for a transaction and the entry that answers it: its group ID and sequence, what its
-- call submits, and the decision
abbrev pub item_of : RawParts → EntryValue → Item
item_of transaction entry = record {
  group = transaction.group;
  sequence = transaction.sequence;
  kind = entry.call.kind;
  title = entry.call.title;
  number = entry.call.number;
  status = status_in entry.reply;
  work = work_in entry.reply;
  faults = entry.call.faults;
}

-- the items for the first transactions, each with the entry that answers it; there are as many as the shorter list has
abbrev pub items_of : List RawParts → List EntryValue → List Item
items_of [] entries = []
items_of (t ∷ transactions) [] = []
items_of (t ∷ transactions) (e ∷ entries) = item_of t e ∷ items_of transactions entries

-- the calls of the transactions of a submitter's file, in file order
abbrev pub calls_in : List ℕ → List RawParts → List CallValue
calls_in submitter transactions = map (call_of submitter) transactions
