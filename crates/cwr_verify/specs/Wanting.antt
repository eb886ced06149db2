-- What files still need of a history, and which of them an entry is for.
use Rattle.std.specs.Prelude.{◌≡◌, ◌≢◌, ◌↔◌, ℕ, ◌<◌, ◌≤◌, true, false, List, Option, Some, length, option_and_then, option_map, slice_get}
use Rattle.std.specs.BTreeSet.{BTreeSet, contains}
use Rattle.std.specs.Ordering.{nat_cmp, ordering_then}
use Rattle.std.specs.declared.cmp.Ordering.{Ordering}
use Rattle.cwr_call.specs.CallValue.{CallValue}
use Rattle.work_registry.specs.EntryValue.{EntryValue}
use Rattle.work_registry.specs.ReplyParts.{status_in, work_in}
use Rattle.work_registry.specs.declared.reply.Reply.{Reply}
use Rattle.cwr_verify.specs.Digest.{digest_of, word_at}
use Rattle.cwr_verify.specs.Replied.{Replied, next_call, replied_by}
use Rattle.cwr_verify.specs.declared.ack_status.AckStatus.{AckStatus}
use Rattle.cwr_verify.specs.declared.waiting.Key.{Key}

-- a file's transactions with the replies to those that are found, and the status and work that its acknowledgement has
-- for each
pub record Wanting : Type 0 where
  pub replied : Replied
  -- the status and work of each ACK, in order
  pub told : List AckStatus

-- the status and work that an acknowledgement has for a reply
abbrev pub status_of_reply : Reply → AckStatus
status_of_reply reply = record { status = status_in reply; work = work_in reply }

-- the file's next transaction can have made the entry: it has this call, and its ACK has this reply
pub record CanHaveMade (wanting : Wanting) (entry : EntryValue) : Type 0 where
  pub call : next_call wanting.replied ≡ Some entry.call
  pub told : slice_get wanting.told (length wanting.replied.replies) ≡ Some (status_of_reply entry.reply)

-- the first file whose next transaction can have made the entry, counted from 0; the number of the files where there
-- is none
pub record IsFirst (all : List Wanting) (entry : EntryValue) (file : ℕ) : Type 0 where
  pub within : file ≤ length all
  -- none of the files before can have made the entry
  pub passed : (before : ℕ) (wanting : Wanting) → before < file → slice_get all before ≡ Some wanting → CanHaveMade wanting entry → ⊥
  -- it can have made the entry, where there is such a file
  pub made : (wanting : Wanting) → slice_get all file ≡ Some wanting → CanHaveMade wanting entry

-- one more transaction of the file is found
abbrev pub found_by : EntryValue → Wanting → Wanting
found_by entry wanting = record { replied = replied_by entry wanting.replied; told = wanting.told }

-- what the files need once the entry is this file's: one transaction more of it is found, and the others are as they
-- were
pub record HasMovedOn (entry : EntryValue) (before after : List Wanting) (file : ℕ) : Type 0 where
  pub files : length after ≡ length before
  pub others : (other : ℕ) → other ≢ file → slice_get after other ≡ slice_get before other
  -- of the entry's file one transaction more is found
  pub its : slice_get after file ≡ option_map (found_by entry) (slice_get before file)

-- the key under which a transaction is found: the last eight bytes of the submitter work number, and a digest of its
-- reply and its call
unfoldable pub key_of : AckStatus → CallValue → Key
key_of told call = record { number_end = word_at call.number 6; digest = digest_of told call }

-- the key under which the file of an entry is looked for
abbrev pub key_of_entry : EntryValue → Key
key_of_entry entry = key_of (status_of_reply entry.reply) entry.call

-- the key of a file's next transaction; `None` where there is none, or the acknowledgement has no ACK for it
unfoldable pub next_key : Wanting → Option Key
next_key wanting = option_and_then (λ call. option_map (λ told. key_of told call) (slice_get wanting.told (length wanting.replied.replies))) (next_call wanting.replied)

-- the key of the next transaction of the file with this number, from 0
abbrev pub next_of : List Wanting → ℕ → Option Key
next_of all file = option_and_then next_key (slice_get all file)

-- the order of keys
abbrev pub key_cmp : Key → Key → Ordering
key_cmp one other = ordering_then (nat_cmp one.number_end other.number_end) (nat_cmp one.digest other.digest)

-- the order by key, and then by file
abbrev pub turn_cmp : Key × ℕ → Key × ℕ → Ordering
turn_cmp one other = ordering_then (key_cmp one.0 other.0) (nat_cmp one.1 other.1)

-- the file waits under this key, where there is one, and under no other
abbrev pub WaitsUnder : Option Key → ℕ → BTreeSet (Key × ℕ) → Type 0
WaitsUnder next file waiting = (key : Key) → (contains turn_cmp waiting (key, file) ≡ true) ↔ (next ≡ Some key)

-- each file whose next transaction has a key waits under that key, and no other file waits
abbrev pub AreWaiting : List Wanting → BTreeSet (Key × ℕ) → Type 0
AreWaiting all waiting = (file : ℕ) → WaitsUnder (next_of all file) file waiting

-- none of the files from `from` up to but not including `end` waits under the key
abbrev pub NoneWaits : Key → ℕ → ℕ → BTreeSet (Key × ℕ) → Type 0
NoneWaits key from end waiting = (file : ℕ) → from ≤ file → file < end → contains turn_cmp waiting (key, file) ≡ false
