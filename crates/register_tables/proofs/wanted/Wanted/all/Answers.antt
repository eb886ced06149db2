use Rattle.std.proofs.Common.{rules}
use Rattle.register_tables.proofs.wanted.Wanted.all.Goals as goal

pub returns : goal.returns
returns c = search rules
