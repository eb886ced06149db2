use Rattle.std.proofs.Common.{rules}
use Rattle.rule_pages.proofs.rule.rule_named.Goals as goal

pub returns : goal.returns
returns c = search rules
