use Rattle.std.proofs.Common.{rules}
use Rattle.run_options.specs.WordsFault.{is_beside_register}
use Rattle.run_options.proofs.words.is_beside_register.Goals as goal

pub returns-then-is_with : goal.returns-then-is_with
unfolding is_beside_register
returns-then-is_with c = search rules

pub returns-else-is_with : goal.returns-else-is_with
unfolding is_beside_register
returns-else-is_with c = search rules
