use Rattle.std.proofs.Common.{rules}
use Rattle.cwr_rules.proofs.parties.key_of.Goals as goal

pub returns-clause-value : goal.returns-clause-value
returns-clause-value c = search rules
