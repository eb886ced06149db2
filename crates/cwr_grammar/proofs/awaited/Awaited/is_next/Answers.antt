use Rattle.std.proofs.Common.{arith}
use Rattle.std.proofs.lemmas.Grind.{common_steps}
use Rattle.cwr_grammar.proofs.awaited.Awaited.is_next.Goals as goal

pub returns-then-packed_at-self : goal.returns-then-packed_at-self
returns-then-packed_at-self c = grind (arith, common_steps)
