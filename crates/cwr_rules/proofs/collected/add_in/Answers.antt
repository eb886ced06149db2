use Rattle.std.proofs.Common.{rules}
use Rattle.cwr_rules.proofs.collected.add_in.Goals as goal

pub with-requires : goal.with-requires
with-requires g c = search rules

pub returns-in-None-clause-none : goal.returns-in-None-clause-none
returns-in-None-clause-none g c = search rules
