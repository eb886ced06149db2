-- A reader or a writer of std, as contracts see it behind a source or a sink.
use Rattle.std.specs.Prelude.{ℕ, Bool}

-- a reader or a writer of std behind a source or a sink, with what is counted of it
pub record ThroughState (T : Type 0) : Type 0 where
  -- the reader or writer itself
  pub inner : T
  -- the number of reads so far
  pub reads : ℕ
  -- whether a read or a write failed, or a write took none of some bytes
  pub has_failed : Bool
