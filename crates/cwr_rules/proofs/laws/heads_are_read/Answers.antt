use Rattle.cwr_rules.proofs.RecordLaw.{head_is}
use Rattle.cwr_rules.proofs.laws.heads_are_read.Goals as goal

pub returns : goal.returns
returns c = λ line x h. head_is line x h
