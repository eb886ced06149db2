use Rattle.std.proofs.Common.{rules}
use Rattle.cwr_grammar.proofs.file_counts.FileCounts.add.Goals as goal

pub returns-in-GroupHeader : goal.returns-in-GroupHeader
returns-in-GroupHeader c = search rules
