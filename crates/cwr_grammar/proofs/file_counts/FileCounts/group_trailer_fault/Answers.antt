use Rattle.std.proofs.Common.{rules}
use Rattle.cwr_grammar.proofs.file_counts.FileCounts.group_trailer_fault.Goals as goal

pub returns-then-not-is_number-3 : goal.returns-then-not-is_number-3
returns-then-not-is_number-3 c = search rules
