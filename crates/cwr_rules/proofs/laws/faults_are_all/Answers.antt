use Rattle.cwr_rules.proofs.Rising.{faults_rise}
use Rattle.cwr_rules.proofs.Members.{all_hold, all_found_of}
use Rattle.cwr_rules.proofs.laws.faults_are_all.Goals as goal

pub returns-clause-rises : goal.returns-clause-rises
returns-clause-rises c = λ kind head records. faults_rise kind head records

pub returns-clause-all : goal.returns-clause-all
returns-clause-all c = λ kind head records f. (λ h. all_hold kind head records f h, λ h. all_found_of kind head records f h)
