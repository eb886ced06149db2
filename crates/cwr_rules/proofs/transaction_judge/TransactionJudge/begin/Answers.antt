use Rattle.std.proofs.Common.{rules}
use Rattle.cwr_rules.proofs.transaction_judge.TransactionJudge.begin.Goals as goal

pub returns : goal.returns
returns g c = search rules
