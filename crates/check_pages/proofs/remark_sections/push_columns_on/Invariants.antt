use Rattle.std.proofs.Common.{◌≡◌, ◌++◌, drop}
use Rattle.check_pages.specs.RemarkSections.{remark_columns_on}
use Rattle.check_pages.proofs.remark_sections.push_columns_on.Given as goal

-- what is appended and what is left make the whole
abbrev pub invariant-loop-remark : goal.invariant-loop-remark
invariant-loop-remark g l = l.spots.items ++ remark_columns_on l.number (drop l.remark-index l.remarks) ≡ l.fn.spots.items ++ remark_columns_on l.number l.fn.remarks
