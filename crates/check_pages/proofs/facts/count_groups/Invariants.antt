use Rattle.std.proofs.Common.{◌≡◌, ◌+◌, count_by}
use Rattle.std.specs.Str.Lines.{lines}
use Rattle.check_pages.specs.Facts.{is_group_line}
use Rattle.check_pages.proofs.facts.count_groups.Given as goal

-- what is counted and what is left make the whole
abbrev pub invariant-loop-line : goal.invariant-loop-line
invariant-loop-line l = l.groups + count_by is_group_line l.line-iterator ≡ count_by is_group_line (lines l.bytes)
