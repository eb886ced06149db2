use Rattle.std.proofs.Common.{rules}
use Rattle.purvilgo_c.proofs.opening.purvilgo_registry_close.Goals as goal

pub returns : goal.returns
returns c = search rules
