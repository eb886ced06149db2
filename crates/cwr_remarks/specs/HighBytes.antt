-- Bytes above 126: in ASCII no character is printed for them.
use Rattle.std.specs.Prelude.{ℕ, ◌+◌, Bool, nat_lt, List, Option, Some, None}
use Rattle.std.specs.List.{position, count_by}
use Rattle.cwr_remarks.specs.declared.remark.Remarked.{Remarked}
use Rattle.cwr_remarks.specs.declared.remark.Remarked.TheVariants.{HighBytes}

-- the byte is above 126
abbrev pub is_high : ℕ → Bool
is_high byte = nat_lt 126 byte

-- a remark on the high bytes of a line, given the index of the first, from 0
abbrev pub high_from : List ℕ → Option ℕ → Option Remarked
high_from line None = None
high_from line (Some index) = Some (HighBytes (index + 1) (count_by is_high line))

-- a remark on the high bytes of a line, where it has some: the position of the first, from 1, and their number
abbrev pub high_bytes : List ℕ → Option Remarked
high_bytes line = high_from line (position is_high line)
