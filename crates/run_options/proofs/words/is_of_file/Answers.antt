use Rattle.std.proofs.Common.{rules}
use Rattle.run_options.specs.WordsFault.{is_of_file}
use Rattle.run_options.proofs.words.is_of_file.Goals as goal

pub returns-then-is_written_for : goal.returns-then-is_written_for
unfolding is_of_file
returns-then-is_written_for c = search rules

pub returns-else-is_written_for : goal.returns-else-is_written_for
unfolding is_of_file
returns-else-is_written_for c = search rules
