use Rattle.std.proofs.Common.{rules}
use Rattle.cwr_rules.proofs.position.Position.is_of_another_party.Goals as goal

pub returns-in-Swt : goal.returns-in-Swt
returns-in-Swt c = search rules
