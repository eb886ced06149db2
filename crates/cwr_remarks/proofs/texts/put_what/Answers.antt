use Rattle.cwr_remarks.proofs.texts.put_what.Goals as goal

pub returns-in-HighBytes : goal.returns-in-HighBytes
returns-in-HighBytes g c = rw c.in-HighBytes.is c.put_high.ensures
