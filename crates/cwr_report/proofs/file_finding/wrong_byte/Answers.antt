use Rattle.std.proofs.Common.{rules}
use Rattle.cwr_report.proofs.file_finding.wrong_byte.Goals as goal

pub returns : goal.returns
returns c = search rules
