use Rattle.std.proofs.Common.{rules}
use Rattle.cwr_report.proofs.file_expected.group_column.Goals as goal

pub returns-in-Grt : goal.returns-in-Grt
returns-in-Grt c = search rules
