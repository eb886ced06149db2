use Rattle.rule_pages.proofs.page.page_name.Goals as goal

pub returns-in-Answer : goal.returns-in-Answer
returns-in-Answer c = rw c.in-Answer.is c.code.ensures
