use Rattle.std.proofs.Common.{rules}
use Rattle.cwr_report.proofs.file_expected.wrong_group_counts.Goals as goal

pub returns : goal.returns
returns c = search rules
