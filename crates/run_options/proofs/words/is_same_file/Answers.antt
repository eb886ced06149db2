use Rattle.std.proofs.Common.{rules}
use Rattle.run_options.specs.RunFault.{is_same_file}
use Rattle.run_options.proofs.words.is_same_file.Goals as goal

pub returns-then-is_with : goal.returns-then-is_with
unfolding is_same_file
returns-then-is_with c = search rules

pub returns-else-is_with : goal.returns-else-is_with
unfolding is_same_file
returns-else-is_with c = search rules
