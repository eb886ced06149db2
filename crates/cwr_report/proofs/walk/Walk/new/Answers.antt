use Rattle.std.proofs.Common.{rules, refl}
use Rattle.cwr_report.proofs.walk.Walk.new.Goals as goal

pub returns-clause-walk : goal.returns-clause-walk
returns-clause-walk c = record { left = search rules; passed_is = refl; latest_is = search rules }
