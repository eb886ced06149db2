use Rattle.std.proofs.Common.{take}
use Rattle.work_registry.specs.Rows.{rows_of}
use Rattle.register_tables.specs.WorksTable.{last_work}
use Rattle.register_tables.specs.WorkTotals.{AreTotals}
use Rattle.register_tables.proofs.works.totals_of_works.Given as goal

-- the entries so far are noted
abbrev pub invariant-loop-entry : goal.invariant-loop-entry
invariant-loop-entry g l = AreTotals (last_work (rows_of l.book.history)) (take l.entry-index l.entries) l.works.items
