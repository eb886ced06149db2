use Rattle.std.proofs.Common.{rules}
use Rattle.cwr_report.proofs.expected.expected_of.Goals as goal

pub returns-in-12 : goal.returns-in-12
returns-in-12 c = search rules
