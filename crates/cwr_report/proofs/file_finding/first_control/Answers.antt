use Rattle.std.proofs.Common.{rules, tests}
use Rattle.std.specs.Prelude.{nat_lt}
use Rattle.std.proofs.lemmas.Iterator.{YieldsList-from_slice}
use Rattle.std.proofs.lemmas.Iterator.Search.{position_from_yields_List}
use Rattle.cwr_report.proofs.file_finding.first_control.Goals as goal

pub returns-clause-value : goal.returns-clause-value
returns-clause-value c = position_from_yields_List (λ b. nat_lt b 32) _ _ _ c.position.ensures.ran (YieldsList-from_slice c.args.line.now cc) (λ x b q k. search (rules, tests))
