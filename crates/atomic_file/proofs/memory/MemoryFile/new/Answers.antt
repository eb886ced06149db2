use Rattle.std.proofs.Common.{rules}
use Rattle.atomic_file.proofs.memory.MemoryFile.new.Goals as goal

pub returns-clause-beside : goal.returns-clause-beside
returns-clause-beside g c = search rules

pub returns-clause-file : goal.returns-clause-file
returns-clause-file g c = search rules
