use Rattle.std.proofs.Common.{rules}
use Rattle.atomic_file.proofs.memory.MemoryFile.bytes.Goals as goal

pub returns-then-self : goal.returns-then-self
returns-then-self g c = search rules
