use Rattle.std.proofs.Common.{◌≡◌, drop}
use Rattle.work_registry.specs.Rows.{rows_of}
use Rattle.register_tables.specs.WorksTable.{greatest}
use Rattle.register_tables.proofs.works.last_work.Given as goal

-- with the entries to come it is the greatest
abbrev pub invariant-loop-entry : goal.invariant-loop-entry
invariant-loop-entry g l = greatest l.last (rows_of (drop l.entry-index l.entries)) ≡ greatest 0 (rows_of l.entries)
