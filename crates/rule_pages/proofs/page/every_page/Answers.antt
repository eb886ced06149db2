use Rattle.std.proofs.Common.{rules}
use Rattle.rule_pages.proofs.page.every_page.Goals as goal

pub returns : goal.returns
returns c = search rules
