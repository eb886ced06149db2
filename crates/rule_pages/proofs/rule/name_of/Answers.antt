use Rattle.std.proofs.Common.{rules}
use Rattle.rule_pages.proofs.rule.name_of.Goals as goal

pub returns-in-J10 : goal.returns-in-J10
returns-in-J10 c = search rules
