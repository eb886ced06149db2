use Rattle.std.proofs.Common.{rules}
use Rattle.report_texts.proofs.check_lines.is_fault_line.Goals as goal

pub returns-then-eq : goal.returns-then-eq
returns-then-eq c = search rules
