use Rattle.std.proofs.Common.{rules}
use Rattle.failing_alloc.proofs.sweep.check_refusal.Goals as goal

pub returns-then-is_refused-requests : goal.returns-then-is_refused-requests
returns-then-is_refused-requests c = search rules
