-- A source over bytes in memory, as contracts see it.
use Rattle.std.specs.Prelude.{ℕ, Bool, List, Option}

-- a source over bytes in memory: the bytes left, how it gives them, and what was read so far
pub record FeedState : Type 0 where
  -- the bytes that reads will give from here on
  pub left : List ℕ
  -- the most bytes that one read gives
  pub chunk : ℕ
  -- the read that fails, counted from 1; `None` where none does
  pub fail : Option ℕ
  -- the number of reads so far
  pub reads : ℕ
  -- whether a read failed
  pub has_failed : Bool
