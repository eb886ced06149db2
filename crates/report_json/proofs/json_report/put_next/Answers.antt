use Rattle.std.proofs.Common.{arith}
use Rattle.std.proofs.lemmas.Grind.{common_steps}
use Rattle.report_json.proofs.json_report.put_next.Goals as goal

pub returns-in_ok-put_own-in-Greater : goal.returns-in_ok-put_own-in-Greater
returns-in_ok-put_own-in-Greater c = grind (arith, common_steps)
