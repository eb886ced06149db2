-- Shares of a right, in hundredths of one per cent.
use Rattle.std.specs.Prelude.{ℕ, nat_le, List, Option, Some, None, option_and_then, if◌then◌else◌}
use Rattle.cwr_field.specs.Layout.{is_blank}
use Rattle.cwr_field.specs.Number.{number_of}

-- the whole of a right, 100 per cent
abbrev pub whole : ℕ
whole = 10000

-- the whole less the tolerance of 0.06 per cent: 99.94 per cent
abbrev pub min_whole : ℕ
min_whole = 9994

-- the whole and the tolerance of 0.06 per cent: 100.06 per cent
abbrev pub max_whole : ℕ
max_whole = 10006

-- the share in a field, in hundredths of one per cent: blanks are 0, digits are their number where it is at most the
-- whole, and anything else is `None`
abbrev pub share_of : List ℕ → Option ℕ
share_of bytes =
    if is_blank bytes then Some 0
    else option_and_then (λ n. if nat_le n whole then Some n else None) (number_of bytes)
