use Rattle.std.proofs.Common.{rules}
use Rattle.cwr_check.proofs.short_report.ShortReportVisitor.begin.Goals as goal

pub returns : goal.returns
returns g c = search rules
