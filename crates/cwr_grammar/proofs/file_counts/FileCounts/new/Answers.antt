use Rattle.std.proofs.Common.{refl}
use Rattle.cwr_grammar.proofs.file_counts.FileCounts.new.Goals as goal

pub returns : goal.returns
returns c = refl
