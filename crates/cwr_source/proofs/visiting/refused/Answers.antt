use Rattle.std.proofs.Common.{rules}
use Rattle.cwr_source.proofs.visiting.refused.Goals as goal

pub returns-in-Unread-Read : goal.returns-in-Unread-Read
returns-in-Unread-Read c = search rules

pub returns-in-Refused-Fault : goal.returns-in-Refused-Fault
returns-in-Refused-Fault c = search rules
