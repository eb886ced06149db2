use Rattle.std.proofs.Common.{rules}
use Rattle.register_tables.proofs.history_objects.put_wanted.Goals as goal

pub returns-clause-rows : goal.returns-clause-rows
returns-clause-rows g c = search rules
