use Rattle.std.proofs.Common.{false}
use Rattle.cwr_engine.specs.Account.{JobAccount}
use Rattle.group_runs.proofs.Pieces.{long_then}
use Rattle.group_runs.proofs.laws.long_runs_follow_one_another.Goals as goal

pub returns : goal.returns
returns g c = λ stamp. long_then (JobAccount g.R.Source g.W.Sink stamp false)
