use Rattle.cwr_acknowledgement.proofs.AckLaw.{one_list}
use Rattle.cwr_acknowledgement.proofs.laws.one_text_one_list_of_items.Goals as goal

pub returns : goal.returns
returns c = one_list
