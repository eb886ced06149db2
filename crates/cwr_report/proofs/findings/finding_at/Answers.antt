use Rattle.std.proofs.Common.{rules}
use Rattle.cwr_report.proofs.findings.finding_at.Goals as goal

pub returns : goal.returns
returns c = search rules
