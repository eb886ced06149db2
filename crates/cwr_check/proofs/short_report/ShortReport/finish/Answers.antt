use Rattle.std.proofs.Common.{rules}
use Rattle.cwr_check.proofs.short_report.ShortReport.finish.Goals as goal

pub returns-clause-lines : goal.returns-clause-lines
returns-clause-lines g c = search rules

pub returns-clause-clean : goal.returns-clause-clean
returns-clause-clean g c = search rules
