-- What the result of a write says about the sink. What reads and writes do to the bytes of a source and a sink is said
-- in std's own words of `Io.KnownBytes`: there `Some` bytes are known, and `None` claims nothing.
use Rattle.std.specs.Prelude.{ℕ, Bool, true, not, ◌==◌, ◌&&◌, List, length, Result, Ok, Err}

-- the write of these bytes failed, or took none of some bytes
abbrev pub stalls : {E : Type 0} → Result ℕ E → List ℕ → Bool
stalls (Ok n) bytes = (n == 0) && not (length bytes == 0)
stalls (Err e) bytes = true
