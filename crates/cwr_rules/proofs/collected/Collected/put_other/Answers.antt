use Rattle.std.proofs.Common.{rules}
use Rattle.cwr_rules.proofs.collected.Collected.put_other.Goals as goal

pub returns-in_ok-insert-in-Some-clause-found : goal.returns-in_ok-insert-in-Some-clause-found
returns-in_ok-insert-in-Some-clause-found g c = search rules
