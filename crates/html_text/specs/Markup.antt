-- What of a page can be markup: its fragments alone.
use Rattle.std.specs.Prelude.{ℕ, ◌==◌, Bool, true, false, not, ◌||◌, List, codes}
use Rattle.std.specs.List.{list_any}
use Rattle.std.specs.Str.{bytes_eq}
use Rattle.html_text.specs.Pieces.{Piece, Fixed}

-- a byte that begins or ends a tag or an attribute
abbrev pub is_delimiter : ℕ → Bool
is_delimiter byte = (byte == 34) || (byte == 39) || (byte == 60) || (byte == 62)

-- one of the five references
abbrev pub is_reference : List ℕ → Bool
is_reference text =
    bytes_eq text (codes "&quot;") || bytes_eq text (codes "&amp;") || bytes_eq text (codes "&#39;") || bytes_eq text (codes "&lt;") || bytes_eq text (codes "&gt;")

-- no byte of it begins or ends a tag, an attribute or a reference
abbrev pub is_plain : List ℕ → Bool
is_plain text = not (list_any (λ byte. is_delimiter byte || (byte == 38)) text)

-- whether a piece is markup
abbrev pub is_fixed : Piece → Bool
is_fixed (Fixed fragment) = true
is_fixed _ = false
