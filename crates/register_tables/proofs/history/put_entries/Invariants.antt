use Rattle.std.proofs.Common.{◌≡◌, ◌≤◌, ◌+◌, drop}
use Rattle.csv.specs.Writing.{text_written}
use Rattle.register_tables.specs.CsvRows.{IsAtRow}
use Rattle.register_tables.specs.HistoryTable.{entry_line, entry_rows}
use Rattle.register_tables.specs.Summary.{count}
use Rattle.register_tables.specs.Wanted.{is_wanted}
use Rattle.register_tables.proofs.Steps.{IsPart}
use Rattle.register_tables.proofs.history.put_entries.Given as goal

-- what is written and what is left make the whole, and so do their numbers of rows
abbrev pub invariant-loop-before : goal.invariant-loop-before
invariant-loop-before g l = record {
  ready : IsAtRow l.out;
  text : IsPart (text_written g.W.Write.contents l.fn.out) (text_written g.W.Write.contents l.out)
      (entry_rows (entry_line l.form) l.wanted (l.before + 1) (drop l.before l.entries))
      (entry_rows (entry_line l.form) l.wanted 1 l.entries);
  rows : l.rows + count (is_wanted l.wanted) (drop l.before l.entries) ≡ count (is_wanted l.wanted) l.entries;
  few : l.rows ≤ l.before;
}
