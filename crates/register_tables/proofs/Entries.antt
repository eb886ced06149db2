-- The rows of entries.
use Rattle.std.proofs.Common.{◌≡◌, ◌+◌, ◌<◌, ◌++◌, ℕ, List, length, drop, get_or, refl}
use Rattle.std.proofs.lemmas.List.{drop_more}
use Rattle.work_registry.specs.EntryValue.{EntryValue}
use Rattle.register_tables.specs.declared.wanted.Wanted.{Wanted}
use Rattle.register_tables.specs.HistoryTable.{entry_row, entry_rows}

-- what is left begins with the row of the next entry
pub next_entry : (line : ℕ → EntryValue → List ℕ) (wanted : Wanted) (entries : List EntryValue) (i : ℕ) (d : EntryValue) → i < length entries
    → entry_rows line wanted (i + 1) (drop i entries) ≡ entry_row line wanted (i + 1) (get_or entries i d) ++ entry_rows line wanted (i + 1 + 1) (drop (i + 1) entries)
next_entry line wanted entries i d lt = rw (drop_more entries i d lt) refl
