use Rattle.std.proofs.Common.{rules}
use Rattle.register_tables.proofs.claims.put_listed.Goals as goal

pub returns-then-is_current-clause-rows : goal.returns-then-is_current-clause-rows
returns-then-is_current-clause-rows g c = search rules
