-- The version of the library.
use Rattle.std.specs.Prelude.{ℕ, List, codes}

-- the version of the library
abbrev pub version_text : List ℕ
version_text = codes "0.2.0"
