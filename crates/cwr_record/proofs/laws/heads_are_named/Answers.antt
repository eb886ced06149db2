use Rattle.cwr_record.proofs.lemmas.LineParts.{work_is}
use Rattle.cwr_record.proofs.laws.heads_are_named.Goals as goal

pub returns : goal.returns
returns c = λ line x h. work_is line x h
