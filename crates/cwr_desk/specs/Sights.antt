-- What a seat of the desk shows of the entries.
use Rattle.std.specs.Prelude.{ℕ, Bool, nat_le, List, length, None}
use Rattle.work_registry.specs.EntryValue.{EntryValue}
use Rattle.registry_desk.specs.declared.view.View.{View}
use Rattle.cwr_engine.specs.Handing.{Entries}

-- the entries that a seat shows: those of its own session; of the whole history nothing, since others write it too
abbrev pub entries_of : View → Entries
entries_of v = record { list = v.list; whole = None }

-- the history that a seat saw last holds the limit of entries
abbrev pub saw_full : ℕ → List EntryValue → Bool
saw_full limit front = nat_le limit (length front)
