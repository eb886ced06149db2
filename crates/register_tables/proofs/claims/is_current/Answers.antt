use Rattle.std.proofs.Common.{rules}
use Rattle.register_tables.proofs.claims.is_current.Goals as goal

pub returns-in-Some : goal.returns-in-Some
returns-in-Some g c = search rules
