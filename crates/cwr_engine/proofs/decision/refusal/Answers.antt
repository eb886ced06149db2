use Rattle.std.proofs.Common.{rules}
use Rattle.cwr_engine.proofs.decision.refusal.Goals as goal

pub returns-in-Full : goal.returns-in-Full
returns-in-Full c = search rules
