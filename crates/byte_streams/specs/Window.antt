-- The bytes of a source, through a window.
use Rattle.std.specs.Prelude.{ℕ, ◌+◌, ◌-◌, ◌*◌, ◌≡◌, ◌≤◌, ◌<◌, ◌==◌, ◌&&◌, nat_lt, Bool, true, false, if◌then◌else◌, List, [], ◌++◌, length, take, drop, Option}
use Rattle.std.specs.Io.KnownBytes.{Consumes, IsAtEnd}
use Rattle.byte_streams.specs.declared.reading.ReadRefused.{ReadRefused}
use Rattle.byte_streams.specs.declared.reading.ReadRefused.TheVariants.{Memory, Read, TooLong}

-- the buffer through which a source is read: the bytes in it, and how far the source was read
pub record WindowState : Type 0 where
  -- the bytes that were read and not yet consumed
  pub held : List ℕ
  -- the number of bytes that were read in all
  pub read : ℕ
  -- the most bytes that may be read in all
  pub limit : ℕ
  -- whether the source has ended
  pub is_ended : Bool

-- the bytes from position start, counted from 0, up to but not including position end
abbrev pub between : List ℕ → ℕ → ℕ → List ℕ
between bytes start end = take (end - start) (drop start bytes)

-- the size of a window when one more read is to be made behind the bytes that it holds, from `start` to `end` of `size`:
-- one whose bytes reach its end and that is smaller than `capacity` gets that size, any other one that is full of them
-- twice its size, or one byte where it has none
abbrev pub size_with_room : (size start end capacity : ℕ) → ℕ
size_with_room size start end capacity =
    if (end == size) && nat_lt size capacity then capacity
    else if end - start == size then (if size == 0 then 1 else 2 * size)
    else size

-- one read more: these bytes came into the window behind those that it held, or the source was found to have ended
pub record HasRead (before after : WindowState) (left_before left_after : Option (List ℕ)) (chunk : List ℕ) : Type 0 where
  pub held : after.held ≡ before.held ++ chunk
  pub read : after.read ≡ before.read + length chunk
  pub limit : after.limit ≡ before.limit
  -- the limit was kept
  pub within : after.read ≤ after.limit
  pub consumed : Consumes left_before left_after chunk
  -- before the end a read gives at least one byte
  pub some : after.is_ended ≡ false → 0 < length chunk
  pub at_end : after.is_ended ≡ true → IsAtEnd left_after

-- the rest of a source from a window on, up to the source's end
pub record IsRest (window : WindowState) (left_before left_after : Option (List ℕ)) (rest : List ℕ) : Type 0 where
  pub consumed : Consumes left_before left_after rest
  pub at_end : IsAtEnd left_after
  -- the source has no more bytes than the limit
  pub fits : window.read + length rest ≤ window.limit
  -- where the source had ended, the rest is empty
  pub none : window.is_ended ≡ true → rest ≡ []

-- Reading stopped: an allocation failed, a read failed, or there are bytes past the limit.
abbrev pub IsStopped : WindowState → Option (List ℕ) → Option (List ℕ) → Bool → ReadRefused → Type 0
IsStopped window left_before left_after failed Memory = failed ≡ false
IsStopped window left_before left_after failed Read = failed ≡ true
IsStopped window left_before left_after failed TooLong =
    (failed ≡ false) × ((more : List ℕ) × (Consumes left_before left_after more × (window.limit < window.read + length more)))
