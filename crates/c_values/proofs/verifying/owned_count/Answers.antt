use Rattle.std.proofs.Common.{arith}
use Rattle.std.proofs.lemmas.Grind.{common_steps}
use Rattle.c_values.proofs.verifying.owned_count.Goals as goal

pub loop-owner-preserved : goal.loop-owner-preserved
loop-owner-preserved c = grind (arith, common_steps)
