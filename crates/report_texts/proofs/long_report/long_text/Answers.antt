use Rattle.std.proofs.Common.{rules}
use Rattle.report_texts.proofs.long_report.long_text.Goals as goal

pub returns : goal.returns
returns g c = search rules
