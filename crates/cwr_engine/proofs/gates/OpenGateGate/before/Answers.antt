use Rattle.std.proofs.Common.{rules}
use Rattle.cwr_engine.proofs.gates.OpenGateGate.before.Goals as goal

pub returns : goal.returns
returns c = search rules
