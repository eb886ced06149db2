use Rattle.std.proofs.Common.{rules}
use Rattle.register_tables.proofs.history.set_faults.Goals as goal

pub returns : goal.returns
returns g c = search rules
