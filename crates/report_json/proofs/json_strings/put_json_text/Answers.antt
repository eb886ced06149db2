use Rattle.std.proofs.Common.{rules}
use Rattle.report_json.proofs.json_strings.put_json_text.Goals as goal

pub returns-then-is_err-clause-err : goal.returns-then-is_err-clause-err
returns-then-is_err-clause-err c = search rules
