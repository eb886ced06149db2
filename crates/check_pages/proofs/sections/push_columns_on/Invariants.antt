use Rattle.std.proofs.Common.{◌≡◌, ◌++◌, drop}
use Rattle.check_pages.specs.Sections.{columns_on}
use Rattle.check_pages.proofs.sections.push_columns_on.Given as goal

-- what is appended and what is left make the whole
abbrev pub invariant-loop-finding : goal.invariant-loop-finding
invariant-loop-finding g l = l.spots.items ++ columns_on l.number (drop l.finding-index l.findings) ≡ l.fn.spots.items ++ columns_on l.number l.fn.findings
