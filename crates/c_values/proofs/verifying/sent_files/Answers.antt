use Rattle.std.proofs.Common.{arith}
use Rattle.std.proofs.lemmas.Grind.{common_steps}
use Rattle.c_values.proofs.verifying.sent_files.Goals as goal

pub loop-given-preserved : goal.loop-given-preserved
loop-given-preserved c = grind (arith, common_steps)
