use Rattle.std.proofs.Common.{rules}
use Rattle.report_texts.proofs.long_lines.message_of.Goals as goal

pub returns-else-number-ge1 : goal.returns-else-number-ge1
returns-else-number-ge1 c = search rules
