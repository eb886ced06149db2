use Rattle.std.proofs.Common.{rules}
use Rattle.cwr_verify.proofs.replied.Replied.answered.Goals as goal

pub returns-clause-replies : goal.returns-clause-replies
returns-clause-replies g c = search rules
