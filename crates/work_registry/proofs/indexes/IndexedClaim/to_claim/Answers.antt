use Rattle.std.proofs.Common.{rules}
use Rattle.work_registry.proofs.indexes.IndexedClaim.to_claim.Goals as goal

pub returns : goal.returns
returns c = search rules
