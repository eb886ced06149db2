use Rattle.std.proofs.Common.{rules}
use Rattle.byte_streams.proofs.through.ThroughSource.read_some.Goals as goal

pub returns-in-Ok-clause-inner : goal.returns-in-Ok-clause-inner
returns-in-Ok-clause-inner g c = search rules

pub returns-in-Ok-clause-counted : goal.returns-in-Ok-clause-counted
returns-in-Ok-clause-counted g c = search rules

pub returns-in-Err-clause-counted : goal.returns-in-Err-clause-counted
returns-in-Err-clause-counted g c = search rules
