use Rattle.std.proofs.Common.{rules}
use Rattle.cwr_grammar.proofs.file_reader.FileReader.take_tail.Goals as goal

pub returns-clause-new : goal.returns-clause-new
returns-clause-new c = search rules
