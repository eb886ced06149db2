use Rattle.std.proofs.Common.{rules}
use Rattle.cwr_grammar.proofs.lines.Lines.of.Goals as goal

pub returns : goal.returns
returns c = search rules
