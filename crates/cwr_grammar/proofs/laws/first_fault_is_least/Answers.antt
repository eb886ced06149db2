use Rattle.cwr_grammar.proofs.Least.{first_is_least}
use Rattle.cwr_grammar.proofs.laws.first_fault_is_least.Goals as goal

pub returns : goal.returns
returns c = λ text line number e. first_is_least text line number e
