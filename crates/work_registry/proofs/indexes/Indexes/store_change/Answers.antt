use Rattle.std.proofs.Common.{rules}
use Rattle.work_registry.proofs.indexes.Indexes.store_change.Goals as goal

pub returns-clause-claims : goal.returns-clause-claims
returns-clause-claims g c = search rules

pub returns-clause-iswcs : goal.returns-clause-iswcs
returns-clause-iswcs g c = search rules
