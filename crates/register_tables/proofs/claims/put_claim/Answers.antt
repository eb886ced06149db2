use Rattle.std.proofs.Common.{rules}
use Rattle.register_tables.proofs.claims.put_claim.Goals as goal

pub returns-clause-text : goal.returns-clause-text
returns-clause-text g c = search rules
