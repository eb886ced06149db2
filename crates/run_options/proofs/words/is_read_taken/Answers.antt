use Rattle.std.proofs.Common.{rules}
use Rattle.run_options.proofs.words.is_read_taken.Goals as goal

pub returns-in-Some-Some : goal.returns-in-Some-Some
returns-in-Some-Some c = search rules
