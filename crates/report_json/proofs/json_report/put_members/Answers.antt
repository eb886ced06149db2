use Rattle.std.proofs.Common.{rules}
use Rattle.report_json.proofs.json_report.put_members.Goals as goal

pub returns : goal.returns
returns c = search rules
