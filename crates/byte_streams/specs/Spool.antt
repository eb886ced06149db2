-- A sink that keeps bytes in memory which grows, as contracts see it.
use Rattle.std.specs.Prelude.{ℕ, Bool, List}

-- a sink over memory that grows: the bytes it took, and the memory that it has
pub record SpoolState : Type 0 where
  -- the bytes that it took
  pub taken : List ℕ
  -- the number of bytes that its memory holds without growing
  pub capacity : ℕ
  -- whether a write failed
  pub has_failed : Bool
