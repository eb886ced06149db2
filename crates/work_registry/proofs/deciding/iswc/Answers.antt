use Rattle.std.proofs.Common.{rules}
use Rattle.work_registry.proofs.deciding.iswc.Goals as goal

pub returns-in-Some-clause-value : goal.returns-in-Some-clause-value
returns-in-Some-clause-value g c = search rules
