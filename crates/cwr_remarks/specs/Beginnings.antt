-- What a file begins with that is no text of CWR, whatever stands behind it.
use Rattle.std.specs.Prelude.{ℕ, Bool, ◌||◌, List, [], ◌∷◌, Option, Some, None, if◌then◌else◌}
use Rattle.std.specs.Str.{bytes_eq}
use Rattle.cwr_field.specs.Layout.{field}
use Rattle.cwr_remarks.specs.declared.remark.Remark.{Remark}
use Rattle.cwr_remarks.specs.declared.remark.Remarked.{Remarked}
use Rattle.cwr_remarks.specs.declared.remark.Remarked.TheVariants.{ByteOrderMark, Utf16, Gzip}

-- the file begins with EF BB BF, the byte order mark U+FEFF in UTF-8
abbrev pub begins_with_mark : List ℕ → Bool
begins_with_mark bytes = bytes_eq (field bytes 1 3) (239 ∷ 187 ∷ 191 ∷ [])

-- the file begins with that mark in UTF-16: FF FE, or FE FF
abbrev pub is_utf16 : List ℕ → Bool
is_utf16 bytes = bytes_eq (field bytes 1 2) (255 ∷ 254 ∷ []) || bytes_eq (field bytes 1 2) (254 ∷ 255 ∷ [])

-- the file begins as one of gzip does: 1F 8B (RFC 1952)
abbrev pub is_gzip : List ℕ → Bool
is_gzip bytes = bytes_eq (field bytes 1 2) (31 ∷ 139 ∷ [])

-- what the file begins with, if that is remarked
abbrev pub beginning : List ℕ → Option Remarked
beginning bytes =
    if begins_with_mark bytes then Some ByteOrderMark
    else if is_utf16 bytes then Some Utf16
    else if is_gzip bytes then Some Gzip
    else None

-- a remark on line 1 that is on no record
abbrev pub on_beginning : Option Remarked → List Remark
on_beginning None = []
on_beginning (Some what) = record { line = 1; rtype = None; what = what } ∷ []
