use Rattle.std.proofs.Common.{rules}
use Rattle.cwr_call.proofs.call.Call.of.Goals as goal

pub returns-then-not-is_lawful-clause-when : goal.returns-then-not-is_lawful-clause-when
returns-then-not-is_lawful-clause-when c = search rules
