use Rattle.std.proofs.Common.{rules}
use Rattle.cwr_rules.proofs.transaction_state.TransactionState.add.Goals as goal

pub returns : goal.returns
returns g c = search rules
