use Rattle.std.proofs.Common.{rules}
use Rattle.run_options.proofs.words.words_fault.Goals as goal

pub returns : goal.returns
returns c = search rules
