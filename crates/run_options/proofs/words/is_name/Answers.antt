use Rattle.std.proofs.Common.{rules}
use Rattle.run_options.proofs.words.is_name.Goals as goal

pub returns-then-word : goal.returns-then-word
returns-then-word c = search rules
