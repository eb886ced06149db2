use Rattle.std.proofs.Common.{rules}
use Rattle.cwr_report.proofs.fields.wrong_dates.Goals as goal

pub returns : goal.returns
returns c = search rules
