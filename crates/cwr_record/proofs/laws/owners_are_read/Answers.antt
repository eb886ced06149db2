use Rattle.cwr_record.proofs.lemmas.LineParts.{publisher_is, writer_is}
use Rattle.cwr_record.proofs.laws.owners_are_read.Goals as goal

pub returns-clause-publisher : goal.returns-clause-publisher
returns-clause-publisher c = λ line x h. publisher_is line x h

pub returns-clause-writer : goal.returns-clause-writer
returns-clause-writer c = λ line x h. writer_is line x h
