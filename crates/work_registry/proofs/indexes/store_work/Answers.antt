use Rattle.std.proofs.Common.{rules}
use Rattle.work_registry.proofs.indexes.store_work.Goals as goal

pub returns-then-place-len : goal.returns-then-place-len
returns-then-place-len g c = search rules

pub returns-in-Ok : goal.returns-in-Ok
returns-in-Ok g c = search rules
