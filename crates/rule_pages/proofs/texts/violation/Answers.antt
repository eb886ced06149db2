use Rattle.rule_pages.proofs.texts.violation.Goals as goal

pub returns-in-F12 : goal.returns-in-F12
returns-in-F12 c = rw c.in-F12.is
