-- The sequence numbers that the next detail of a file must have, as their digits.
use Rattle.std.specs.Prelude.{ℕ, ◌+◌, ◌-◌, ◌≡◌, Some}
use Rattle.std.specs.Int.{w64, from_be_bytes}
use Rattle.cwr_field.specs.Number.{number_text}
use Rattle.cwr_record.specs.declared.works.WorkKind.{WorkKind}
use Rattle.cwr_grammar.specs.declared.awaited.Awaited.{Awaited}
use Rattle.cwr_grammar.specs.declared.file_counts.FileCounts.{FileCounts}
use Rattle.cwr_grammar.specs.declared.role.Role.{Role}
use Rattle.cwr_grammar.specs.declared.role.Role.TheVariants.{TransactionHeader, Detail}

-- the last eight digits of a number, as the big-endian number of their eight ASCII bytes
unfoldable pub packed_digits_of : ℕ → ℕ
packed_digits_of n = from_be_bytes w64 (number_text 8 n)

-- `awaited` has the digits that the next detail must have: the sequence of the transaction that began last, and the
-- next record sequence in it
pub record Awaits (counts : FileCounts) (awaited : Awaited) : Type 0 where
  pub transaction : awaited.transaction ≡ packed_digits_of (counts.transactions - 1)
  pub detail : awaited.detail ≡ packed_digits_of (counts.details + 1)

-- the role of the next detail of the transaction that began last
abbrev pub next_detail : FileCounts → Role
next_detail counts = Detail (Some (counts.transactions - 1)) (Some (counts.details + 1))

-- the role of the header of the next transaction of the group, which is of this kind
abbrev pub next_header : WorkKind → FileCounts → Role
next_header kind counts = TransactionHeader (Some kind) (Some counts.transactions) (Some 0)
