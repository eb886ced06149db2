use Rattle.std.proofs.Common.{◌≡◌, ◌++◌, drop, map}
use Rattle.register_tables.specs.Summary.{lines_text}
use Rattle.register_tables.proofs.summary.put_lines.Given as goal

-- what is written and what is left make the whole
abbrev pub invariant-loop-line : goal.invariant-loop-line
invariant-loop-line g l =
    l.page.items ++ lines_text (map (λ line. (line.0.now, line.1)) (drop l.line-index l.lines)) ≡ l.fn.page.items ++ lines_text (map (λ line. (line.0.now, line.1)) l.fn.lines)
