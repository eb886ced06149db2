-- Bytes of a file as a person is shown them: nothing but printable ASCII goes to a terminal.
use Rattle.std.specs.Prelude.{ℕ, ◌/◌, ◌%◌, Bool, List, [], ◌∷◌, if◌then◌else◌}
use Rattle.std.specs.List.{flat_map}
use Rattle.cwr_field.specs.Shown.{hex_digit, is_unprinted}

-- the byte as it is printed: a backslash, x and two digits where it has no printed character; any other as it stands,
-- a backslash too
abbrev pub shown : ℕ → List ℕ
shown byte = if is_unprinted byte then 92 ∷ 120 ∷ hex_digit (byte / 16) ∷ hex_digit (byte % 16) ∷ [] else byte ∷ []

-- the bytes as they are printed
abbrev pub shown_text : List ℕ → List ℕ
shown_text bytes = flat_map shown bytes

-- bytes as they are printed, or as they stand
abbrev pub bytes_as_printed : Bool → List ℕ → List ℕ
bytes_as_printed shows bytes = if shows then shown_text bytes else bytes
