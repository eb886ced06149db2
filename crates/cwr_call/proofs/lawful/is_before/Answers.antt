use Rattle.std.proofs.Common.{rules}
use Rattle.cwr_call.proofs.lawful.is_before.Goals as goal

pub returns-then-one-other-2 : goal.returns-then-one-other-2
returns-then-one-other-2 c = search rules
