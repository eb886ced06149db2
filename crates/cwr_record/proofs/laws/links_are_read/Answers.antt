use Rattle.cwr_record.proofs.lemmas.LineParts.{link_is}
use Rattle.cwr_record.proofs.laws.links_are_read.Goals as goal

pub returns : goal.returns
returns c = λ line x h. link_is line x h
