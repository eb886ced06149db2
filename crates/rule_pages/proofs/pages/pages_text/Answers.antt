use Rattle.std.proofs.Common.{arith}
use Rattle.std.proofs.lemmas.Grind.{common_steps}
use Rattle.rule_pages.proofs.pages.pages_text.Goals as goal

pub returns : goal.returns
returns g c = grind (arith, common_steps)

pub loop-rule-preserved : goal.loop-rule-preserved
loop-rule-preserved g c = grind (arith, common_steps)
