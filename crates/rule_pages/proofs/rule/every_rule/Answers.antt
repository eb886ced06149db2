use Rattle.std.proofs.Common.{rules}
use Rattle.rule_pages.proofs.rule.every_rule.Goals as goal

pub returns : goal.returns
returns c = search rules
