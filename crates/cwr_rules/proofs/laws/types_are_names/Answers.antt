use Rattle.cwr_rules.proofs.NameLaw.{names_are}
use Rattle.cwr_rules.proofs.laws.types_are_names.Goals as goal

pub returns : goal.returns
returns c = λ line. names_are line
