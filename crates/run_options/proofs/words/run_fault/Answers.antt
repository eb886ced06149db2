use Rattle.std.proofs.Common.{arith}
use Rattle.std.proofs.lemmas.Grind.{common_steps}
use Rattle.run_options.proofs.words.run_fault.Goals as goal

pub returns-then-is_named_twice : goal.returns-then-is_named_twice
returns-then-is_named_twice c = grind (arith, common_steps)

pub returns : goal.returns
returns c = grind (arith, common_steps)
