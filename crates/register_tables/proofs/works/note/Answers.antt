use Rattle.std.proofs.Common.{arith}
use Rattle.std.proofs.lemmas.Grind.{common_steps}
use Rattle.register_tables.proofs.works.note.Goals as goal

pub returns-then-work-len-clause-noted : goal.returns-then-work-len-clause-noted
returns-then-work-len-clause-noted g c = grind (arith, common_steps)
