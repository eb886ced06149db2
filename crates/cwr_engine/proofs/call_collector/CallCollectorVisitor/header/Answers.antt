use Rattle.std.proofs.Common.{refl}
use Rattle.cwr_engine.proofs.call_collector.CallCollectorVisitor.header.Goals as goal

pub returns : goal.returns
returns g c = λ first kept. (refl, record { clean = c.requires.printable; judged_are = kept.1.judged_are }, tt)
