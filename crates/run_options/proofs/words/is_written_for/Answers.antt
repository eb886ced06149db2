use Rattle.std.proofs.Common.{rules}
use Rattle.run_options.specs.WordsFault.{is_written_for}
use Rattle.run_options.proofs.words.is_written_for.Goals as goal

pub returns-then-is_with : goal.returns-then-is_with
unfolding is_written_for
returns-then-is_with c = search rules

pub returns-else-is_with : goal.returns-else-is_with
unfolding is_written_for
returns-else-is_with c = search rules
