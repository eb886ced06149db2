use Rattle.std.proofs.Common.{rules}
use Rattle.report_json.proofs.json_values.put_comma.Goals as goal

pub returns-in_ok-push : goal.returns-in_ok-push
returns-in_ok-push c = search rules
