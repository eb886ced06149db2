use Rattle.std.proofs.Common.{arith}
use Rattle.std.proofs.lemmas.Grind.{common_steps}
use Rattle.cwr_desk.proofs.serving.+fn-serve_from-join+arg3+serve_from.Goals as goal

pub returns-in-Ok-push : goal.returns-in-Ok-push
returns-in-Ok-push g t c = grind (arith, common_steps)
