use Rattle.std.proofs.Common.{rules}
use Rattle.rule_pages.proofs.texts.title.Goals as goal

pub returns-in-J12 : goal.returns-in-J12
returns-in-J12 c = search rules

pub returns-in-F10 : goal.returns-in-F10
returns-in-F10 c = search rules
