use Rattle.std.proofs.Common.{rules}
use Rattle.rule_pages.proofs.page.page_named.Goals as goal

pub returns : goal.returns
returns c = search rules
