use Rattle.cwr_rules.proofs.TerritoryLaw.{some_code, at_code}
use Rattle.cwr_rules.proofs.laws.territories_are_all.Goals as goal

pub returns : goal.returns
returns c = λ records. (λ h. some_code records h, λ w. at_code records w.0 w.1)
