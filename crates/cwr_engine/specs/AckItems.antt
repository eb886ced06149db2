-- What an acknowledgement contains of judged transactions and of the replies to their calls.
use Rattle.std.specs.Prelude.{List, [], ◌∷◌}
use Rattle.cwr_acknowledgement.specs.AckItem.{Item}
use Rattle.work_registry.specs.ReplyParts.{status_in, work_in}
use Rattle.work_registry.specs.declared.reply.Reply.{Reply}
use Rattle.cwr_engine.specs.Judged.{JudgedValue}

-- the item of an acknowledgement for a judged transaction and the reply to its call
abbrev pub item_with_reply : JudgedValue → Reply → Item
item_with_reply judged reply = record {
  group = judged.group;
  sequence = judged.sequence;
  kind = judged.call.kind;
  title = judged.call.title;
  number = judged.call.number;
  status = status_in reply;
  work = work_in reply;
  faults = judged.call.faults;
}

-- the items for the first judged transactions, each with the reply to its call; there are as many as the shorter list
-- has
abbrev pub items_with_replies : List JudgedValue → List Reply → List Item
items_with_replies [] replies = []
items_with_replies (j ∷ judged) [] = []
items_with_replies (j ∷ judged) (r ∷ replies) = item_with_reply j r ∷ items_with_replies judged replies
