use Rattle.report_texts.proofs.words.name_text.Goals as goal

pub returns-in-MechanicalCollection : goal.returns-in-MechanicalCollection
returns-in-MechanicalCollection c = rw c.in-MechanicalCollection.is
