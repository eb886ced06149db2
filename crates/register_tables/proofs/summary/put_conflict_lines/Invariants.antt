use Rattle.std.proofs.Common.{◌≡◌, ◌++◌, drop}
use Rattle.std.specs.List.{flat_map}
use Rattle.register_tables.specs.Summary.{conflict_line}
use Rattle.register_tables.proofs.summary.put_conflict_lines.Given as goal

-- what is written and what is left make the whole
abbrev pub invariant-loop-one : goal.invariant-loop-one
invariant-loop-one g l = l.page.items ++ flat_map conflict_line (drop l.one-index l.top) ≡ l.fn.page.items ++ flat_map conflict_line l.fn.top
