use Rattle.std.proofs.Common.{rules}
use Rattle.cwr_grammar.proofs.file_reader.FileReader.new.Goals as goal

pub returns : goal.returns
returns c = search rules
