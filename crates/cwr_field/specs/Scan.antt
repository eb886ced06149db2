-- Bytes that are looked for.
use Rattle.std.specs.Prelude.{ℕ, Bool, nat_lt}
use Rattle.cwr_field.specs.declared.scan.Sought.{Sought}
use Rattle.cwr_field.specs.declared.scan.Sought.TheVariants.{Below, Above}

-- whether a byte is one of those looked for: below the limit, or above it
abbrev pub is_sought : Sought → ℕ → Bool
is_sought (Below limit) byte = nat_lt byte limit
is_sought (Above limit) byte = nat_lt limit byte
