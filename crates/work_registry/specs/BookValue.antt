-- What a book contains, independently of how it is stored: all entries, the first one first, and how many there can
-- be.
use Rattle.std.specs.Prelude.{ℕ, List}
use Rattle.work_registry.specs.EntryValue.{EntryValue}

-- the history of a book, and the most entries that it may have
pub record BookValue : Type 0 where
  -- the entries, the oldest first
  pub history : List EntryValue
  -- the most entries that the history may have
  pub limit : ℕ
