use Rattle.std.proofs.Common.{◌≡◌, ◌≤◌, ◌+◌, drop}
use Rattle.register_tables.specs.HistoryJson.{entry_json}
use Rattle.register_tables.specs.HistoryTable.{entry_rows}
use Rattle.register_tables.specs.Summary.{count}
use Rattle.register_tables.specs.Wanted.{is_wanted}
use Rattle.register_tables.proofs.Steps.{IsPart}
use Rattle.register_tables.proofs.history_objects.put_entries.Given as goal

-- what is written and what is left make the whole, and so do their numbers of rows
abbrev pub invariant-loop-before : goal.invariant-loop-before
invariant-loop-before g l = record {
  text : IsPart (g.W.Write.contents l.fn.out) (g.W.Write.contents l.out)
      (entry_rows entry_json l.wanted (l.before + 1) (drop l.before l.entries))
      (entry_rows entry_json l.wanted 1 l.entries);
  rows : l.rows + count (is_wanted l.wanted) (drop l.before l.entries) ≡ count (is_wanted l.wanted) l.entries;
  few : l.rows ≤ l.before;
}
