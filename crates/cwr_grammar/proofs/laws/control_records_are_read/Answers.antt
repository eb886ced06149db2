use Rattle.cwr_grammar.proofs.RoleLaw.{header_role, group_header_role, group_trailer_role, file_trailer_role}
use Rattle.cwr_grammar.proofs.laws.control_records_are_read.Goals as goal

pub returns-clause-header : goal.returns-clause-header
returns-clause-header c = λ line x h. header_role line x h

pub returns-clause-group_head : goal.returns-clause-group_head
returns-clause-group_head c = λ line x h. group_header_role line x h

pub returns-clause-group_trailer : goal.returns-clause-group_trailer
returns-clause-group_trailer c = λ line x h. group_trailer_role line x h

pub returns-clause-file_trailer : goal.returns-clause-file_trailer
returns-clause-file_trailer c = λ line x h. file_trailer_role line x h
