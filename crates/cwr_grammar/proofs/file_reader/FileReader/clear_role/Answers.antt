use Rattle.std.proofs.Common.{rules}
use Rattle.cwr_grammar.proofs.file_reader.FileReader.clear_role.Goals as goal

pub returns-clause-role : goal.returns-clause-role
returns-clause-role c = search rules

pub returns-in-Some-clause-fault : goal.returns-in-Some-clause-fault
returns-in-Some-clause-fault c = search rules
