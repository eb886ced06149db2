use Rattle.std.proofs.Common.{rules}
use Rattle.run_options.proofs.words.RunFault.text.Goals as goal

pub returns-in-Date : goal.returns-in-Date
returns-in-Date c = search rules
