use Rattle.std.proofs.Common.{rules}
use Rattle.cwr_rules.proofs.standing.push_found.Goals as goal

pub returns-else-holds : goal.returns-else-holds
returns-else-holds g c = search rules
