use Rattle.std.proofs.Common.{rules}
use Rattle.atomic_file.proofs.memory.MemoryFile.place.Goals as goal

pub returns : goal.returns
returns g c = search rules
