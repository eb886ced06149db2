-- The name of a file in a page.
use Rattle.std.specs.Prelude.{ℕ, ◌||◌, ◌==◌, List, [], ◌∷◌, if◌then◌else◌}
use Rattle.std.specs.List.{flat_map}
use Rattle.cwr_field.specs.Layout.{is_control}
use Rattle.html_text.specs.Pieces.{Piece, Byte, Hex}

-- a byte of a file's name, which is text in UTF-8: a control character by its number, as \xEF
unfoldable pub name_byte : ℕ → List Piece
name_byte byte = if is_control byte || (byte == 127) then Byte 92 ∷ Byte 120 ∷ Hex byte ∷ [] else Byte byte ∷ []

-- the name of a file
abbrev pub file_name : List ℕ → List Piece
file_name name = flat_map name_byte name
