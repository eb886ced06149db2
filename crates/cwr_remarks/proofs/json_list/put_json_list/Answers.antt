use Rattle.std.proofs.Common.{arith}
use Rattle.std.proofs.lemmas.Grind.{common_steps}
use Rattle.cwr_remarks.proofs.json_list.put_json_list.Goals as goal

pub loop-remark-preserved : goal.loop-remark-preserved
loop-remark-preserved c = grind (arith, common_steps)
