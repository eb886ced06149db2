use Rattle.std.proofs.Common.{◌≡◌, ◌≤◌, ◌+◌, ◌-◌, filter, length}
use Rattle.std.specs.List.{flat_map, range_with_len}
use Rattle.csv.specs.Writing.{text_written}
use Rattle.register_tables.specs.CsvRows.{IsAtRow}
use Rattle.register_tables.specs.WorksTable.{is_wanted_work, work_line, work_lines}
use Rattle.register_tables.specs.Summary.{count}
use Rattle.register_tables.proofs.Steps.{IsPart}
use Rattle.register_tables.proofs.works.put_works.Given as goal

-- what is written and what is left make the whole, and so do their numbers of rows
abbrev pub invariant-loop-before : goal.invariant-loop-before
invariant-loop-before g l = record {
  ready : IsAtRow l.out;
  text : IsPart (text_written g.W.Write.contents l.fn.out) (text_written g.W.Write.contents l.out)
      (flat_map (work_line l.form l.book.history) (filter (is_wanted_work l.wanted) (range_with_len (l.before + 1) (length l.works - l.before))))
      (work_lines l.form l.wanted l.book.history);
  rows :
      l.rows + count (is_wanted_work l.wanted) (range_with_len (l.before + 1) (length l.works - l.before))
      ≡ count (is_wanted_work l.wanted) (range_with_len 1 (length l.works));
  few : l.rows ≤ l.before;
}
