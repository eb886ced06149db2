use Rattle.std.proofs.Common.{rules}
use Rattle.cwr_grammar.proofs.file_reader.FileReader.envelope.Goals as goal

pub returns-then-not-counts-clause-fault : goal.returns-then-not-counts-clause-fault
returns-then-not-counts-clause-fault c = search rules

pub returns-clause-found : goal.returns-clause-found
returns-clause-found c = search rules
