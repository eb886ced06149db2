use Rattle.std.proofs.Common.{ap, sym}
use Rattle.register_tables.specs.Counting.{is_first}
use Rattle.register_tables.proofs.tally.is_first.Goals as goal

pub returns-in-Accepted : goal.returns-in-Accepted
returns-in-Accepted c = sym (ap is_first c.in-Accepted.is)
