use Rattle.std.proofs.Common.{arith}
use Rattle.std.proofs.lemmas.Grind.{common_steps}
use Rattle.rule_pages.proofs.writing.texts_of_pages.Goals as goal

pub returns : goal.returns
returns g c = grind (arith, common_steps)

pub loop-page-preserved : goal.loop-page-preserved
loop-page-preserved g c = grind (arith, common_steps)
