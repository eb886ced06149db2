use Rattle.std.proofs.Common.{rules}
use Rattle.cwr_grammar.proofs.file_counts.FileCounts.group_header_fault.Goals as goal

pub returns-then-not-is_number : goal.returns-then-not-is_number
returns-then-not-is_number c = search rules
