-- What a registry behind a handle contains: every entry, the first one first, and the acknowledgement of the file that
-- was run last, which is empty before the first.
use Rattle.std.specs.Prelude.{ℕ, List}
use Rattle.work_registry.specs.EntryValue.{EntryValue}

-- the registry behind a handle
pub record RegistryValue : Type 0 where
  -- the entries, the oldest first
  pub history : List EntryValue
  -- the acknowledgement of the file that was run last; empty before the first
  pub acknowledgement : List ℕ
