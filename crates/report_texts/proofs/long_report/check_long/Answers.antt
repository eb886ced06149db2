use Rattle.std.proofs.Common.{rules}
use Rattle.report_texts.proofs.long_report.check_long.Goals as goal

pub returns : goal.returns
returns g c = search rules
