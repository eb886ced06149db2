-- Bytes that go out piece after piece.
use Rattle.std.proofs.Common.{ℕ, ◌+◌, List, take, drop, append_assoc}
use Rattle.std.specs.Prelude.{Option, Some, None}
use Rattle.std.specs.Io.KnownBytes.{Appends}
use Rattle.std.proofs.Math.Seq.{take-add}

-- the first i bytes went out, and then n bytes more
pub Appends-more : (old mid new : Option (List ℕ)) (i n : ℕ) (bytes : List ℕ) →
    Appends old mid (take i bytes) → Appends mid new (take n (drop i bytes)) → Appends old new (take (i + n) bytes)
Appends-more None mid new i n bytes first then = tt
Appends-more (Some xs) None new i n bytes first then = absurd first
Appends-more (Some xs) (Some ys) None i n bytes first then = absurd then
Appends-more (Some xs) (Some ys) (Some zs) i n bytes first then =
    rw (then, first, take-add i n bytes) (append_assoc xs (take i bytes) (take n (drop i bytes)))
