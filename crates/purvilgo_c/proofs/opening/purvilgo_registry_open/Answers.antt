use Rattle.std.proofs.Common.{rules}
use Rattle.purvilgo_c.proofs.opening.purvilgo_registry_open.Goals as goal

pub of-requires : goal.of-requires
of-requires c = search rules
