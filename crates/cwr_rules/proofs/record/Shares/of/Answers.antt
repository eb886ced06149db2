use Rattle.std.proofs.Common.{refl}
use Rattle.cwr_rules.proofs.record.Shares.of.Goals as goal

pub returns : goal.returns
returns c = refl
