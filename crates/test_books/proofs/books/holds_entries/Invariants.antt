use Rattle.std.proofs.Common.{ℕ, ◌≡◌, ◌<◌, ◌+◌, slice_index_or}
use Rattle.work_registry.specs.EntryValue.{EntryValue}
use Rattle.test_books.specs.Calls.{entry_numbered}
use Rattle.test_books.proofs.books.holds_entries.Given as goal

-- the entries so far are counted, and are those of the first calls
abbrev pub invariant-loop-entry : goal.invariant-loop-entry
invariant-loop-entry g l = record {
  counted : l.number ≡ l.entry-index;
  entries : (k : ℕ) (d : EntryValue) → k < l.entry-index → slice_index_or l.entry-items k d ≡ entry_numbered l.before (k + 1);
}
