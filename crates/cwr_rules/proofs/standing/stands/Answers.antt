use Rattle.std.proofs.Common.{rules}
use Rattle.cwr_rules.proofs.standing.stands.Goals as goal

pub returns-in-Some : goal.returns-in-Some
returns-in-Some g c = search rules
