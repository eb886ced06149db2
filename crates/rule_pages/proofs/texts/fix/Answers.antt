use Rattle.rule_pages.proofs.texts.fix.Goals as goal

pub returns-in-J2 : goal.returns-in-J2
returns-in-J2 c = rw c.in-J2.is
