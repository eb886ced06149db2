use Rattle.std.proofs.Common.{rules}
use Rattle.cwr_rules.proofs.record.Territory.included.Goals as goal

pub returns-then-self-eq73 : goal.returns-then-self-eq73
returns-then-self-eq73 c = search rules

pub returns-else-self-eq73 : goal.returns-else-self-eq73
returns-else-self-eq73 c = search rules
