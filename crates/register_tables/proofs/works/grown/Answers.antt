use Rattle.std.proofs.Common.{rules}
use Rattle.register_tables.proofs.works.grown.Goals as goal

pub returns-then-version-eq1 : goal.returns-then-version-eq1
returns-then-version-eq1 c = search rules

pub returns-else-version-eq1 : goal.returns-else-version-eq1
returns-else-version-eq1 c = search rules
