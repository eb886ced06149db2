use Rattle.std.proofs.Common.{◌≡◌, ◌≤◌, ◌+◌, drop, filter}
use Rattle.std.specs.List.{flat_map}
use Rattle.csv.specs.Writing.{text_written}
use Rattle.work_registry.specs.Rows.{rows_of}
use Rattle.register_tables.specs.CsvRows.{IsAtRow}
use Rattle.register_tables.specs.ClaimsTable.{claim_line, is_listed}
use Rattle.register_tables.specs.Summary.{count}
use Rattle.register_tables.proofs.Steps.{IsPart}
use Rattle.register_tables.proofs.claims.put_claims.Given as goal

-- what is written and what is left make the whole, and so do their numbers of rows
abbrev pub invariant-loop-entry : goal.invariant-loop-entry
invariant-loop-entry g l = record {
  ready : IsAtRow l.out;
  text : IsPart (text_written g.W.Write.contents l.fn.out) (text_written g.W.Write.contents l.out)
      (flat_map (claim_line l.form) (filter (is_listed l.wanted (rows_of l.book.history)) (drop l.entry-index l.entries)))
      (flat_map (claim_line l.form) (filter (is_listed l.wanted (rows_of l.book.history)) l.entries));
  rows : l.rows + count (is_listed l.wanted (rows_of l.book.history)) (drop l.entry-index l.entries) ≡ count (is_listed l.wanted (rows_of l.book.history)) l.entries;
  few : l.rows ≤ l.entry-index;
}
