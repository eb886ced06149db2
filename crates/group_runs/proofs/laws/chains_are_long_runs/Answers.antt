use Rattle.std.proofs.Common.{false}
use Rattle.cwr_engine.specs.Account.{JobAccount}
use Rattle.group_runs.proofs.Chains.{chain_is_long}
use Rattle.group_runs.proofs.Grouped.{lifts}
use Rattle.group_runs.proofs.laws.chains_are_long_runs.Goals as goal

pub returns : goal.returns
returns g c = λ stamp. chain_is_long c.one_register_one_history.ensures (JobAccount g.R.Source g.W.Sink stamp false) (lifts g.R.Source g.W.Sink stamp)
