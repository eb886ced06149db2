use Rattle.std.proofs.Common.{rules}
use Rattle.cwr_verify.specs.Digest.{parts_of}
use Rattle.cwr_verify.proofs.digest.parts_of.Goals as goal

pub returns : goal.returns
unfolding parts_of
returns g c = search rules
