use Rattle.std.proofs.Common.{rules}
use Rattle.cwr_report.proofs.reporting.report_on.Goals as goal

pub report_of_fault-requires : goal.report_of_fault-requires
report_of_fault-requires g c = search rules

pub returns-in-Ok : goal.returns-in-Ok
returns-in-Ok g c = search rules
