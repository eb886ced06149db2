use Rattle.std.proofs.Common.{rules}
use Rattle.atomic_file.proofs.memory.MemoryStorageStorage.write_some.Goals as goal

pub returns-clause-wrote : goal.returns-clause-wrote
returns-clause-wrote g c = search rules
