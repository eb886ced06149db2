use Rattle.std.proofs.Common.{◌≡◌, ◌++◌, drop}
use Rattle.check_pages.specs.Sections.{columns_of}
use Rattle.check_pages.proofs.sections.push_columns.Given as goal

-- what is appended and what is left make the whole
abbrev pub invariant-loop-field : goal.invariant-loop-field
invariant-loop-field g l = l.spots.items ++ columns_of (drop l.field-index l.fields) ≡ l.fn.spots.items ++ columns_of l.fn.fields
