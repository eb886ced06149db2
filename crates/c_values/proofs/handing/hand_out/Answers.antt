use Rattle.std.proofs.Common.{rules}
use Rattle.c_values.proofs.handing.hand_out.Goals as goal

pub returns-then-text-out : goal.returns-then-text-out
returns-then-text-out c = search rules
