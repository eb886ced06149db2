use Rattle.std.proofs.Common.{rules}
use Rattle.cwr_engine.proofs.call_collector.CallCollectorVisitor.detail.Goals as goal

pub returns : goal.returns
returns g c = search rules
