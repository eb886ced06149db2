use Rattle.std.proofs.Common.{rules}
use Rattle.c_values.proofs.registry.Registry.run.Goals as goal

pub returns : goal.returns
returns c = search rules
