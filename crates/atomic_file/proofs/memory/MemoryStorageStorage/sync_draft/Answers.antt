use Rattle.std.proofs.Common.{rules}
use Rattle.atomic_file.proofs.memory.MemoryStorageStorage.sync_draft.Goals as goal

pub returns-clause-durable : goal.returns-clause-durable
returns-clause-durable g c = search rules
