use Rattle.cwr_grammar.proofs.RoleLaw.{work_role, publisher_role, publisher_territory_role, writer_role, writer_territory_role, link_role, alt_title_role, cross_ref_role}
use Rattle.cwr_grammar.proofs.laws.sequences_are_read.Goals as goal

pub returns-clause-head : goal.returns-clause-head
returns-clause-head c = λ line x h. work_role line x h

pub returns-clause-publisher : goal.returns-clause-publisher
returns-clause-publisher c = λ line x h. publisher_role line x h

pub returns-clause-publisher_territory : goal.returns-clause-publisher_territory
returns-clause-publisher_territory c = λ line x h. publisher_territory_role line x h

pub returns-clause-writer : goal.returns-clause-writer
returns-clause-writer c = λ line x h. writer_role line x h

pub returns-clause-writer_territory : goal.returns-clause-writer_territory
returns-clause-writer_territory c = λ line x h. writer_territory_role line x h

pub returns-clause-link : goal.returns-clause-link
returns-clause-link c = λ line x h. link_role line x h

pub returns-clause-alt_title : goal.returns-clause-alt_title
returns-clause-alt_title c = λ line x h. alt_title_role line x h

pub returns-clause-cross_ref : goal.returns-clause-cross_ref
returns-clause-cross_ref c = λ line x h. cross_ref_role line x h
