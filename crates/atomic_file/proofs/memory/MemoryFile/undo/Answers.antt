use Rattle.std.proofs.Common.{rules}
use Rattle.atomic_file.proofs.memory.MemoryFile.undo.Goals as goal

pub returns-then-not-self : goal.returns-then-not-self
returns-then-not-self g c = search rules

pub returns-else-not-self : goal.returns-else-not-self
returns-else-not-self g c = search rules
