use Rattle.std.proofs.Common.{rules}
use Rattle.cwr_rules.proofs.record.Territory.of.Goals as goal

pub returns : goal.returns
returns c = search rules
