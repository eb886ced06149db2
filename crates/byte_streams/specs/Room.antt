-- A sink that keeps bytes in memory, as contracts see it.
use Rattle.std.specs.Prelude.{ℕ, Bool, List}

-- a sink over memory of a fixed size: the bytes it took, and what it does when full
pub record RoomState : Type 0 where
  -- the bytes that it took
  pub taken : List ℕ
  -- the most bytes that it takes in all
  pub size : ℕ
  -- when full it fails, in place of taking none
  pub fails : Bool
  -- whether a write failed, or took none of some bytes
  pub has_failed : Bool
