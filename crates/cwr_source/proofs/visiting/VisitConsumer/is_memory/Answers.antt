use Rattle.std.proofs.Common.{rules}
use Rattle.cwr_source.proofs.visiting.VisitConsumer.is_memory.Goals as goal

pub returns : goal.returns
returns g c = search rules
