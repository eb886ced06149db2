use Rattle.std.proofs.Common.{arith}
use Rattle.std.proofs.lemmas.Grind.{common_steps}
use Rattle.cwr_acknowledgement.proofs.places.put_ended.Goals as goal

pub returns : goal.returns
returns c = grind (arith, common_steps)
