-- What a box tells of its line: the bytes, and where marks begin and end.
use Rattle.std.specs.Prelude.{ℕ, ◌&&◌, Bool, true, false, not, List, [], ◌∷◌, if◌then◌else◌}
use Rattle.std.specs.List.{flat_map}
use Rattle.html_text.specs.Pieces.{Piece, Fixed, Number, Byte, Hex}
use Rattle.html_text.specs.declared.fragment.Fragment.{Fragment}
use Rattle.html_text.specs.declared.fragment.Fragment.TheVariants.{Blank, Mark, MarkByte, MarkEnd}

-- the byte that a fragment stands for: a blank, where it is a blank that is seen
abbrev pub byte_of_fragment : Fragment → List ℕ
byte_of_fragment Blank = 32 ∷ []
byte_of_fragment _ = []

-- the byte of a line that a piece shows, where it shows one
abbrev pub byte_of : Piece → List ℕ
byte_of (Fixed fragment) = byte_of_fragment fragment
byte_of (Number number) = []
byte_of (Byte byte) = byte ∷ []
byte_of (Hex byte) = byte ∷ []

-- the bytes of a line that pieces show
abbrev pub bytes_of : List Piece → List ℕ
bytes_of pieces = flat_map byte_of pieces

-- a mark begins
abbrev pub is_begin : Piece → Bool
is_begin (Fixed Mark) = true
is_begin (Fixed MarkByte) = true
is_begin _ = false

-- a mark ends
abbrev pub is_end : Piece → Bool
is_end (Fixed MarkEnd) = true
is_end _ = false

-- no mark begins within another, each ends, and none ends that did not begin; `within` says whether one is within before
abbrev pub are_apart : Bool → List Piece → Bool
are_apart within [] = not within
are_apart within (piece ∷ pieces) =
    if is_begin piece then not within && are_apart true pieces
    else if is_end piece then within && are_apart false pieces
    else are_apart within pieces
