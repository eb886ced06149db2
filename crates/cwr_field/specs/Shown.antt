-- Bytes that have no printed character.
use Rattle.std.specs.Prelude.{ℕ, ◌+◌, Bool, ◌||◌, nat_lt, if◌then◌else◌}
use Rattle.cwr_field.specs.Layout.{is_control}

-- the character of a hexadecimal digit, with capitals
abbrev pub hex_digit : ℕ → ℕ
hex_digit digit = if nat_lt digit 10 then 48 + digit else 55 + digit

-- the byte has no printed character in ASCII: it is below 32 or above 126
abbrev pub is_unprinted : ℕ → Bool
is_unprinted byte = is_control byte || nat_lt 126 byte
