use Rattle.std.proofs.Common.{sym}
use Rattle.report_texts.proofs.long_report.put_refused.Goals as goal

pub returns : goal.returns
returns g c = rw (sym c.line_of.ensures) c.put_file_finding.ensures
