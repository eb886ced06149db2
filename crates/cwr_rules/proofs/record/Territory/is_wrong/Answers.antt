use Rattle.std.proofs.Common.{rules}
use Rattle.cwr_rules.proofs.record.Territory.is_wrong.Goals as goal

pub returns-then-self-ne69 : goal.returns-then-self-ne69
returns-then-self-ne69 c = search rules

pub returns-else-self-ne69 : goal.returns-else-self-ne69
returns-else-self-ne69 c = search rules
