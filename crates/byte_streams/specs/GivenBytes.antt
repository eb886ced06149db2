-- What a reader has given.
use Rattle.std.specs.Prelude.{ℕ, List, Option}
use Rattle.std.specs.Io.KnownBytes.{Consumes}

-- of the bytes left to a reader before, it gave the first ones, and the others are left; `None` where its bytes are
-- not known
abbrev pub HasGiven : Option (List ℕ) → Option (List ℕ) → Type 0
HasGiven before after = (bytes : List ℕ) × Consumes before after bytes
