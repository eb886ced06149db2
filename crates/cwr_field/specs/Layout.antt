-- Fields of fixed width in a line of bytes (CWR 2.2, record layouts).
use Rattle.std.specs.List.{list_all}
use Rattle.std.specs.Prelude.{ℕ, ◌-◌, ◌==◌, nat_le, nat_lt, Bool, List, ◌++◌, length, take, drop, replicate, Option, Some, None, if◌then◌else◌}

-- the n bytes of the line from position start on, counted from 1; a line that is shorter counts as followed by blanks
abbrev pub field : List ℕ → ℕ → ℕ → List ℕ
field line start n = take n (drop (start - 1) line ++ replicate n 32)

-- the text, filled with blanks at its end up to the width; a longer text stays as it is
abbrev pub padded : ℕ → List ℕ → List ℕ
padded width text = text ++ replicate (width - length text) 32

-- each byte is a blank; so is the empty list
abbrev pub is_blank : List ℕ → Bool
is_blank bytes = list_all (λ b. b == 32) bytes

-- the least byte that is no control byte: a blank, 32
abbrev pub min_printable : ℕ
min_printable = 32

-- a control byte, as those of line ends are
abbrev pub is_control : ℕ → Bool
is_control byte = nat_lt byte min_printable

-- no byte is a control byte
abbrev pub is_printable : List ℕ → Bool
is_printable bytes = list_all (nat_le min_printable) bytes

-- an interested party number: the bytes of the field as they stand, and `None` where all are blanks
abbrev pub party_of : List ℕ → Option (List ℕ)
party_of bytes = if is_blank bytes then None else Some bytes
