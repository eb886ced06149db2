use Rattle.std.proofs.Common.{rules}
use Rattle.register_store.proofs.taking.is_memory.Goals as goal

pub returns : goal.returns
returns c = search rules
