use Rattle.std.proofs.Common.{rules}
use Rattle.cwr_engine.proofs.lines.outcome_line.Goals as goal

pub returns : goal.returns
returns g c = search rules
