use Rattle.std.proofs.Common.{rules}
use Rattle.cwr_verify.specs.Wanting.{key_of}
use Rattle.cwr_verify.proofs.waiting.Key.of.Goals as goal

pub returns : goal.returns
unfolding key_of
returns g c = search rules
