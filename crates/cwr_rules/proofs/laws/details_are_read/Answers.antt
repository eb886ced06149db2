use Rattle.cwr_rules.proofs.RecordLaw.{publisher_record, publisher_territory_record, writer_record, writer_territory_record, link_record, alt_title_record, cross_ref_record}
use Rattle.cwr_rules.proofs.laws.details_are_read.Goals as goal

pub returns-clause-publisher : goal.returns-clause-publisher
returns-clause-publisher c = λ line x h. publisher_record line x h

pub returns-clause-publisher_territory : goal.returns-clause-publisher_territory
returns-clause-publisher_territory c = λ line x h. publisher_territory_record line x h

pub returns-clause-writer : goal.returns-clause-writer
returns-clause-writer c = λ line x h. writer_record line x h

pub returns-clause-writer_territory : goal.returns-clause-writer_territory
returns-clause-writer_territory c = λ line x h. writer_territory_record line x h

pub returns-clause-link : goal.returns-clause-link
returns-clause-link c = λ line x h. link_record line x h

pub returns-clause-alt_title : goal.returns-clause-alt_title
returns-clause-alt_title c = λ line x h. alt_title_record line x h

pub returns-clause-cross_ref : goal.returns-clause-cross_ref
returns-clause-cross_ref c = λ line x h. cross_ref_record line x h
