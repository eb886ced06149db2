use Rattle.std.proofs.Common.{rules}
use Rattle.register_tables.proofs.texts.Texts.set_control.Goals as goal

pub returns-clause-control : goal.returns-clause-control
returns-clause-control g c = search rules
