-- Where in a page a piece stands: in text, in a tag, between quotes, or in the style.
use Rattle.std.specs.Prelude.{ℕ, ◌==◌, ◌&&◌, ◌||◌, nat_lt, Bool, true, false, List, [], ◌∷◌, ◌++◌, codes, if◌then◌else◌}
use Rattle.std.specs.Str.{bytes_eq}
use Rattle.html_text.specs.Fragments.{fragment_text}
use Rattle.html_text.specs.Pieces.{Piece, Fixed, Number, Byte}

-- where in HTML a byte stands
pub data Context : Type 0 where
  -- between tags
  Text : Context
  -- in the name of a tag, of which this is read
  Name : List ℕ → Context
  -- in a tag, behind its name
  Tag : Context
  -- between the double quotes of an attribute
  Quoted : Context
  -- in the element of the style
  Style : Context
  -- between the double quotes of a text of the style
  StyleQuoted : Context
  -- in a tag of which this is to follow: the one that ends the style, or the first of a page
  Wanted : List ℕ → Context
  -- where nothing may stand: markup that is not told from other markup here, or a piece out of its place
  Misplaced : Context

-- behind a tag that is this name alone
abbrev pub behind_tag : List ℕ → Context
behind_tag name = if bytes_eq name (codes "style") then Style else if bytes_eq name (codes "script") then Misplaced else Text

-- behind the name of a tag that has attributes
abbrev pub behind_name : List ℕ → Context
behind_name name = if bytes_eq name (codes "style") || bytes_eq name (codes "script") then Misplaced else Tag

-- a byte of the name of a tag, behind its `/` where it has one: a digit or a small letter
abbrev pub is_name_byte : ℕ → Bool
is_name_byte byte = (nat_lt 47 byte && nat_lt byte 58) || (nat_lt 96 byte && nat_lt byte 123)

-- behind a byte of markup
abbrev pub behind_byte : Context → ℕ → Context
behind_byte Text byte = if byte == 60 then Name [] else Text
behind_byte (Name name) byte =
    if byte == 62 then behind_tag name
    else if byte == 32 then behind_name name
    else if is_name_byte byte || (bytes_eq name [] && (byte == 47)) then Name (name ++ byte ∷ [])
    else if bytes_eq name [] && (byte == 33) then Wanted (codes "DOCTYPE html>")
    else Misplaced
behind_byte Tag byte =
    if byte == 34 then Quoted
    else if byte == 62 then Text
    else if (byte == 39) || (byte == 60) then Misplaced
    else Tag
behind_byte Quoted byte = if byte == 34 then Tag else if (byte == 60) || (byte == 62) then Misplaced else Quoted
behind_byte Style byte =
    if byte == 60 then Wanted (codes "/style>")
    else if byte == 34 then StyleQuoted
    else if byte == 39 then Misplaced
    else Style
behind_byte StyleQuoted byte = if byte == 34 then Style else if byte == 60 then Misplaced else StyleQuoted
behind_byte (Wanted []) byte = Misplaced
behind_byte (Wanted (wanted ∷ [])) byte = if byte == wanted then Text else Misplaced
behind_byte (Wanted (wanted ∷ next ∷ later)) byte = if byte == wanted then Wanted (next ∷ later) else Misplaced
behind_byte Misplaced byte = Misplaced

-- behind these bytes of markup
abbrev pub behind_bytes : Context → List ℕ → Context
behind_bytes context [] = context
behind_bytes context (byte ∷ bytes) = behind_bytes (behind_byte context byte) bytes

-- J, the letter of the rules of transactions
abbrev pub of_transactions : ℕ
of_transactions = 74

-- F, the letter of the rules of files
abbrev pub of_files : ℕ
of_files = 70

-- the letter of a rule
abbrev pub is_rule_letter : ℕ → Bool
is_rule_letter byte = (byte == of_files) || (byte == of_transactions)

-- A piece that is no markup may stand there: anything in text, the name of a rule and numbers between quotes, and
-- numbers in a text of the style.
abbrev pub may_stand : Context → Piece → Bool
may_stand Text piece = true
may_stand Quoted (Number number) = true
may_stand Quoted (Byte byte) = is_rule_letter byte
may_stand StyleQuoted (Number number) = true
may_stand _ piece = false

-- behind a piece
abbrev pub behind_piece : Context → Piece → Context
behind_piece context (Fixed fragment) = behind_bytes context (fragment_text fragment)
behind_piece context piece = if may_stand context piece then context else Misplaced

-- behind these pieces; `Misplaced` where one of them stands out of its place
abbrev pub behind : Context → List Piece → Context
behind context [] = context
behind context (piece ∷ pieces) = behind (behind_piece context piece) pieces
