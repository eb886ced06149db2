-- Unsigned numbers as decimal digits that fill their field.
use Rattle.std.specs.Prelude.{ℕ, zero, suc, ◌+◌, ◌/◌, ◌%◌, List, [], ◌∷◌, ◌++◌, Option, Some, None, if◌then◌else◌}
use Rattle.std.specs.List.{list_all}
use Rattle.std.specs.Char.{is_ascii_digit}
use Rattle.std.specs.Str.Parse.{digits_value}

-- the decimal number that the bytes spell, leading zeros included; `None` where one of them is no digit
abbrev pub number_of : List ℕ → Option ℕ
number_of bytes = if list_all is_ascii_digit bytes then Some (digits_value 10 bytes) else None

-- the greatest number of eight digits: sequences, counts and numbers of works are at most this
abbrev pub max_count : ℕ
max_count = 99999999

-- the last digits of a number, as many as the width, with leading zeros; digits above the width are lost
abbrev pub number_text : ℕ → ℕ → List ℕ
number_text zero n = []
number_text (suc width) n = number_text width (n / 10) ++ (48 + n % 10) ∷ []

-- the two digits of a number below 100
abbrev pub digit_pair : ℕ → List ℕ
digit_pair n = (48 + n / 10) ∷ (48 + n % 10) ∷ []
