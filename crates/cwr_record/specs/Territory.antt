-- The number of a territory (TIS, Territory Information System).
use Rattle.std.specs.Prelude.{ℕ, ◌==◌, List, [], ◌∷◌, Option, None, if◌then◌else◌}
use Rattle.cwr_field.specs.Layout.{is_blank}
use Rattle.cwr_field.specs.Number.{number_of}

-- the bytes from the first that is no blank
abbrev pub without_leading : List ℕ → List ℕ
without_leading [] = []
without_leading (b ∷ bytes) = if b == 32 then without_leading bytes else b ∷ bytes

-- the bytes up to the last that is no blank
abbrev pub without_trailing : List ℕ → List ℕ
without_trailing [] = []
without_trailing (b ∷ bytes) = if is_blank (b ∷ bytes) then [] else b ∷ without_trailing bytes

-- the bytes without the blanks before and behind them
abbrev pub without_blanks_around : List ℕ → List ℕ
without_blanks_around bytes = without_trailing (without_leading bytes)

-- the number that the bytes spell; `None` where there are none, or one is no digit
abbrev pub some_number : List ℕ → Option ℕ
some_number [] = None
some_number (b ∷ bytes) = number_of (b ∷ bytes)

-- the TIS code in a field: the number that is left without the blanks around it; `None` where that is no number
abbrev pub territory_of : List ℕ → Option ℕ
territory_of bytes = some_number (without_blanks_around bytes)
