use Rattle.std.proofs.Common.{refl, rules}
use Rattle.c_values.proofs.checking.write_checked.Goals as goal

pub returns-clause-clean : goal.returns-clause-clean
returns-clause-clean c = refl

pub returns-clause-text : goal.returns-clause-text
returns-clause-text c = search rules
