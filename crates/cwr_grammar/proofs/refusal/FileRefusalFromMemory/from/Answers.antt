use Rattle.std.proofs.Common.{rules}
use Rattle.cwr_grammar.proofs.refusal.FileRefusalFromMemory.from.Goals as goal

pub returns : goal.returns
returns c = search rules
