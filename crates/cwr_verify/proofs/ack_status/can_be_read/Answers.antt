use Rattle.std.proofs.Common.{arith}
use Rattle.std.proofs.lemmas.Grind.{common_steps}
use Rattle.cwr_verify.proofs.ack_status.can_be_read.Goals as goal

pub returns-then-is_number-4 : goal.returns-then-is_number-4
returns-then-is_number-4 c = grind (arith, common_steps)
