use Rattle.std.proofs.Common.{rules}
use Rattle.report_json.proofs.json_strings.put_wide.Goals as goal

pub returns-clause-ok : goal.returns-clause-ok
returns-clause-ok c = search rules
