use Rattle.std.proofs.Common.{rules}
use Rattle.cwr_report.proofs.latest.Latest.add.Goals as goal

pub returns : goal.returns
returns c = search rules
