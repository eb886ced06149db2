use Rattle.std.proofs.Common.{rules}
use Rattle.cwr_report.proofs.file_expected.expected_in_line.Goals as goal

pub returns-in-9 : goal.returns-in-9
returns-in-9 c = search rules
