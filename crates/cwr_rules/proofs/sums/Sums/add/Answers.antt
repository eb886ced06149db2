use Rattle.std.proofs.Common.{rules}
use Rattle.cwr_rules.proofs.sums.Sums.add.Goals as goal

pub returns-in-Opu : goal.returns-in-Opu
returns-in-Opu c = search rules
