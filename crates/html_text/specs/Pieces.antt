-- A page as a list of pieces: markup, numbers, and bytes that are shown.
use Rattle.std.specs.Prelude.{◌≡◌, ℕ, zero, suc, ◌+◌, ◌/◌, ◌%◌, ◌==◌, ◌||◌, nat_lt, Bool, false, List, [], ◌∷◌, ◌++◌, codes, if◌then◌else◌}
use Rattle.std.specs.List.{flat_map}
use Rattle.std.specs.Fmt.{decimal}
use Rattle.cwr_field.specs.Shown.{hex_digit, is_unprinted}
use Rattle.html_text.specs.Fragments.{fragment_text}
use Rattle.html_text.specs.declared.fragment.Fragment.{Fragment}
use Rattle.html_text.specs.declared.fragment.Fragment.TheVariants.{ByteBox, ByteBoxEnd, Blank}

-- a piece of a page
pub data Piece : Type 0 where
  -- markup, which is the same in all pages
  Fixed : Fragment → Piece
  -- a number, in decimal digits
  Number : ℕ → Piece
  -- a byte of a text, as itself
  Byte : ℕ → Piece
  -- a byte of a text, by its number to the base 16
  Hex : ℕ → Piece

-- a byte in a text of HTML: those that begin or end a tag, an attribute or a reference are references
abbrev pub byte_text : ℕ → List ℕ
byte_text byte =
    if byte == 34 then codes "&quot;"
    else if byte == 38 then codes "&amp;"
    else if byte == 39 then codes "&#39;"
    else if byte == 60 then codes "&lt;"
    else if byte == 62 then codes "&gt;"
    else byte ∷ []

-- the byte is not shown as itself: it is no printable ASCII, or begins or ends a tag, an attribute or a reference
abbrev pub is_changed : ℕ → Bool
is_changed byte = is_unprinted byte || (byte == 34) || (byte == 38) || (byte == 39) || (byte == 60) || (byte == 62)

-- the byte of a marked field is shown as itself: it is not changed, and no blank
pub record IsSeen (byte : ℕ) : Type 0 where
  pub kept : is_changed byte ≡ false
  pub other : (byte == 32) ≡ false

-- the bytes of a piece
abbrev pub piece_text : Piece → List ℕ
piece_text (Fixed fragment) = fragment_text fragment
piece_text (Number number) = decimal number
piece_text (Byte byte) = byte_text byte
piece_text (Hex byte) = hex_digit (byte / 16) ∷ hex_digit (byte % 16) ∷ []

-- the bytes of a page
abbrev pub page_text : List Piece → List ℕ
page_text pieces = flat_map piece_text pieces

-- a byte of a line: as itself, or by its number where it is no printable ASCII
abbrev pub cell : ℕ → List Piece
cell byte = if is_unprinted byte then Fixed ByteBox ∷ Hex byte ∷ Fixed ByteBoxEnd ∷ [] else Byte byte ∷ []

-- a byte of a marked field, where a blank is seen
abbrev pub field_cell : ℕ → List Piece
field_cell byte = if byte == 32 then Fixed Blank ∷ [] else cell byte

-- bytes, each in its cell
abbrev pub shown : List ℕ → List Piece
shown bytes = flat_map cell bytes

-- the bytes of a marked field
abbrev pub field_shown : List ℕ → List Piece
field_shown bytes = flat_map field_cell bytes

-- a text that is known to be UTF-8
abbrev pub text_pieces : List ℕ → List Piece
text_pieces [] = []
text_pieces (byte ∷ bytes) = Byte byte ∷ text_pieces bytes

-- a sign, so many times
abbrev pub signs : ℕ → List ℕ → List ℕ
signs zero sign = []
signs (suc count) sign = sign ++ signs count sign
