use Rattle.rule_pages.proofs.answers.answer_title.Goals as goal

pub returns-in-Conflict : goal.returns-in-Conflict
returns-in-Conflict c = rw c.in-Conflict.is
