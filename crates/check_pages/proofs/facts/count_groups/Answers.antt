use Rattle.std.proofs.Common.{arith}
use Rattle.std.specs.Str.Lines.{lines}
use Rattle.std.proofs.lemmas.List.Sums.{count_by-le-length}
use Rattle.check_pages.specs.Facts.{is_group_line}
use Rattle.check_pages.proofs.FewLines.{few_lines}
use Rattle.check_pages.proofs.facts.count_groups.Goals as goal

pub overflow_add-groups : goal.overflow_add-groups
overflow_add-groups c = omega (arith, c.loop-line.invariant, count_by-le-length is_group_line (lines c.args.bytes.now), few_lines c.args.bytes.now)
