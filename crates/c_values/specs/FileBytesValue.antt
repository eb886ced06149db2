-- A source over the bytes of a file in memory, as contracts see it.
use Rattle.std.specs.Prelude.{ℕ, List}

-- a source over the bytes of a file in memory
pub record FileBytesValue : Type 0 where
  -- the bytes that reads will give from here on
  pub left : List ℕ
  -- the number of reads so far
  pub reads : ℕ
