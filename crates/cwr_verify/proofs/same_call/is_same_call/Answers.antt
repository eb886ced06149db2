use Rattle.std.proofs.Common.{rules}
use Rattle.cwr_verify.proofs.same_call.is_same_call.Goals as goal

pub returns-then-are_same_shares : goal.returns-then-are_same_shares
returns-then-are_same_shares g c = search rules
