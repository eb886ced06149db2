use Rattle.rule_pages.proofs.texts.requirement.Goals as goal

pub returns-in-J10 : goal.returns-in-J10
returns-in-J10 c = rw c.in-J10.is
