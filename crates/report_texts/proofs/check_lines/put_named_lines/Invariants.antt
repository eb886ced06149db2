use Rattle.std.proofs.Common.{◌≡◌, ◌++◌}
use Rattle.std.specs.Str.Lines.{lines}
use Rattle.report_texts.specs.CheckLines.{named_lines}
use Rattle.report_texts.proofs.check_lines.put_named_lines.Given as goal

-- what is written and what is left make the whole
abbrev pub invariant-loop-line : goal.invariant-loop-line
invariant-loop-line g l = l.out.items ++ named_lines l.name l.line-iterator ≡ l.fn.out.items ++ named_lines l.fn.name (lines l.fn.told)
