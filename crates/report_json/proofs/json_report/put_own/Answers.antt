use Rattle.std.proofs.Common.{arith}
use Rattle.std.proofs.lemmas.Grind.{common_steps}
use Rattle.report_json.proofs.json_report.put_own.Goals as goal

pub returns-in-Faulty : goal.returns-in-Faulty
returns-in-Faulty c = grind (arith, common_steps)
