use Rattle.std.specs.Str.Lines.{lines}
use Rattle.cwr_report.specs.Before.{IsPassed}
use Rattle.cwr_report.proofs.before.at_line.Given as goal

-- so many lines were passed
abbrev pub invariant-loop : goal.invariant-loop
invariant-loop l = IsPassed l.before l.lines (lines l.bytes) l.counter
